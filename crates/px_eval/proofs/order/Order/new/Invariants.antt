use Rattle.std.proofs.Common.{◌≡◌, replicate, None}
use Rattle.px_eval.proofs.order.Order.new.Given as goal

abbrev pub invariant-loop-i : goal.invariant-loop-i
invariant-loop-i l = l.needed.items ≡ replicate l._i None
