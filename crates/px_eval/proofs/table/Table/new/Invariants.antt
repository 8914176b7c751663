use Rattle.std.proofs.Common.{◌≡◌, replicate, None}
use Rattle.px_eval.proofs.table.Table.new.Given as goal

abbrev pub invariant-loop-i : goal.invariant-loop-i
invariant-loop-i l = l.places.items ≡ replicate l._i None
