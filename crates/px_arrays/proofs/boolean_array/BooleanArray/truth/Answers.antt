use Rattle.std.proofs.Common.{◌∙◌, sym, ap, map}
use Rattle.px_semantics.specs.Logic.{is_true}
use Rattle.px_arrays.proofs.BooleanRows.{bitmaps_true}
use Rattle.px_arrays.proofs.boolean_array.BooleanArray.truth.Goals as goal

pub returns : goal.returns
returns c = sym (bitmaps_true c.self.inside.truth c.self.inside.valid c.self.invariant) ∙ ap (map is_true) c.self.view_is
