use Rattle.std.proofs.Common.{◌≡◌, length}
use Rattle.px_eval_bench.proofs.frames.numbers.Given as goal

-- a row for each place so far
abbrev pub invariant-loop-place : goal.invariant-loop-place
invariant-loop-place l = length l.builder ≡ l.place
