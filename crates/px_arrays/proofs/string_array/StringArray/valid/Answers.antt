use Rattle.std.proofs.Common.{◌∙◌, sym, ap, map, is_some}
use Rattle.px_arrays.proofs.StringRows.{strings_valid}
use Rattle.px_arrays.proofs.string_array.StringArray.valid.Goals as goal

pub returns : goal.returns
returns c = sym (strings_valid c.self.inside.valid c.self.inside.texts c.self.invariant) ∙ ap (map is_some) c.self.view_is
