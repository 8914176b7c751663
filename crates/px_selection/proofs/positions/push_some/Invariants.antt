use Rattle.std.proofs.Common.{◌≡◌, ◌++◌, ◌-◌, ◌==◌}
use Rattle.std.specs.Int.{bit_at}
use Rattle.std.specs.List.{filter, range_with_len}
use Rattle.px_selection.proofs.positions.push_some.Given as goal

abbrev pub invariant-loop-i : goal.invariant-loop-i
invariant-loop-i l = l.positions.items ≡ l.initial.positions.items ++ filter (λ k. bit_at l.word (k - l.start) == 1) (range_with_len l.start l.i)
