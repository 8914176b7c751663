use Rattle.std.proofs.Common.{◌∙◌, ap, arith, length}
use Rattle.std.proofs.lemmas.List.{length-map}
use Rattle.px_arrays.proofs.Entries.{length-entries}
use Rattle.px_arrays.proofs.integer_array_builder.IntegerArrayBuilder.finish.Goals as goal

pub from_bools-requires : goal.from_bools-requires
from_bools-requires g c =
    let n = g.T.Integer.integer in
    let s = c.self.inside in
    omega (arith, ap length c.as_slice.ensures.value, length-entries n s.valid.items s.values.items (c.self.invariant.same_length ∙ length-map s.values.items n), ap length c.self.view_is, c.requires)
