use Rattle.std.proofs.Common.{◌∙◌, sym, ap, length}
use Rattle.px_arrays.proofs.BooleanRows.{length-booleans, booleans_typed}
use Rattle.px_arrays.proofs.boolean_array.BooleanArray.len.Goals as goal

pub returns-clause-rows : goal.returns-clause-rows
returns-clause-rows c = c.len.ensures.bits ∙ sym (length-booleans c.self.inside.truth c.self.inside.valid c.self.invariant) ∙ ap length c.self.view_is

pub returns-clause-typed : goal.returns-clause-typed
returns-clause-typed c = rw (← c.self.view_is) (booleans_typed c.self.inside.truth c.self.inside.valid)
