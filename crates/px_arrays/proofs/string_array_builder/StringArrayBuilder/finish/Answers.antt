use Rattle.std.proofs.Common.{ap, arith, length}
use Rattle.std.proofs.lemmas.Simd.{length-zip2}
use Rattle.px_semantics.specs.Rows.{string_entry}
use Rattle.px_arrays.proofs.string_array_builder.StringArrayBuilder.finish.Goals as goal

pub from_bools-requires : goal.from_bools-requires
from_bools-requires c =
    let s = c.self.inside in
    omega (arith, ap length c.as_slice.ensures.value, length-zip2 string_entry s.valid.items s.texts c.self.invariant, ap length c.self.view_is, c.requires)
