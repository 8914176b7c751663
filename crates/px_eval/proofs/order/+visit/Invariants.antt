use Rattle.px_rules.specs.Plan.{places}
use Rattle.px_arena.proofs.Measure.{weight_at}
use Rattle.px_eval.proofs.Ordering.{Visiting}
use Rattle.px_eval.proofs.order.+visit.Given as goal

abbrev pub decreases-visit : goal.decreases-visit
decreases-visit l = weight_at l.arena.now l.node.0

abbrev pub invariant-loop-i : goal.invariant-loop-i
invariant-loop-i l = Visiting l.arena l.node.0 l.expr l.i l.initial.order.needed.items (places l.order.places.items) l.order.needed.items
