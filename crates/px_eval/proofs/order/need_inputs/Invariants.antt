use Rattle.std.proofs.Common.{◌≡◌, length}
use Rattle.px_arena.specs.Denotes.{inputs_of}
use Rattle.px_eval.proofs.Ordering.{Raising}
use Rattle.px_eval.proofs.order.need_inputs.Given as goal

abbrev pub invariant-loop-i : goal.invariant-loop-i
invariant-loop-i l = record {
  kept : l.order.places.items ≡ l.initial.order.places.items;
  raising : Raising (length l.initial.order.places.items) (inputs_of l.expr) l.i l.initial.order.needed.items l.order.needed.items;
}
