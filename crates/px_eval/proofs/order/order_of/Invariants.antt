use Rattle.px_rules.specs.Plan.{places}
use Rattle.px_eval.proofs.Ordering.{Rooting}
use Rattle.px_eval.proofs.order.order_of.Given as goal

abbrev pub invariant-loop-i : goal.invariant-loop-i
invariant-loop-i l = Rooting l.arena (places l.roots) l.i (places l.order.places.items) l.order.needed.items
