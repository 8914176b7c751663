use Rattle.px_arena.specs.Denotes.{inputs_of}
use Rattle.px_eval.proofs.Fills.{Dropping}
use Rattle.px_eval.proofs.filling.drop_inputs.Given as goal

abbrev pub invariant-loop-i : goal.invariant-loop-i
invariant-loop-i l = Dropping l.order.needed.items l.position (inputs_of l.expr) l.i l.initial.table l.table
