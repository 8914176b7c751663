use Rattle.std.proofs.Common.{◌≡◌, length}
use Rattle.px_rules.specs.Plan.{places}
use Rattle.px_eval.proofs.Ordering.{Raising}
use Rattle.px_eval.proofs.order.need_roots.Given as goal

abbrev pub invariant-loop-i : goal.invariant-loop-i
invariant-loop-i l = record {
  kept : l.order.places.items ≡ l.initial.order.places.items;
  raising : Raising (length l.initial.order.places.items) (places l.roots) l.i l.initial.order.needed.items l.order.needed.items;
}
