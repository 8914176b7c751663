use Rattle.std.proofs.Common.{◌≡◌, length}
use Rattle.px_bench.proofs.inputs.number_column.Given as goal

-- a row for each number so far
abbrev pub invariant-loop-number : goal.invariant-loop-number
invariant-loop-number l = length l.builder ≡ l.number-index
