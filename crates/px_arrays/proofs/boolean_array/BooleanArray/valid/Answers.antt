use Rattle.std.proofs.Common.{◌∙◌, sym, ap, map, is_some}
use Rattle.px_arrays.proofs.BooleanRows.{bitmaps_valid}
use Rattle.px_arrays.proofs.boolean_array.BooleanArray.valid.Goals as goal

pub returns : goal.returns
returns c = sym (bitmaps_valid c.self.inside.truth c.self.inside.valid c.self.invariant.same_length) ∙ ap (map is_some) c.self.view_is
