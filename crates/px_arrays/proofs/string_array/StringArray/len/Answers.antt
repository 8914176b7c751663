use Rattle.std.proofs.Common.{◌∙◌, sym, ap, length}
use Rattle.std.proofs.lemmas.Simd.{length-zip2}
use Rattle.px_semantics.specs.Rows.{string_entry}
use Rattle.px_arrays.proofs.StringRows.{strings_typed}
use Rattle.px_arrays.proofs.string_array.StringArray.len.Goals as goal

pub returns-clause-rows : goal.returns-clause-rows
returns-clause-rows c = c.len.ensures.bits ∙ sym (length-zip2 string_entry c.self.inside.valid c.self.inside.texts c.self.invariant) ∙ ap length c.self.view_is

pub returns-clause-typed : goal.returns-clause-typed
returns-clause-typed c = rw (← c.self.view_is) (strings_typed c.self.inside.valid c.self.inside.texts)
