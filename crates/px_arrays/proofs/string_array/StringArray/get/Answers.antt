use Rattle.std.proofs.Common.{◌<◌, ◌∙◌, sym, ap, arith, length, get_or, None}
use Rattle.std.proofs.lemmas.Simd.{length-zip2}
use Rattle.px_semantics.specs.Rows.{string_entry}
use Rattle.px_arrays.proofs.StringRows.{string_null_at}
use Rattle.px_arrays.proofs.string_array.StringArray.get.Goals as goal

pub get-requires : goal.get-requires
get-requires c =
    let s = c.self.inside in
    omega (arith, length-zip2 string_entry s.valid s.texts c.self.invariant, ap length c.self.view_is, c.requires)

pub returns-else-get : goal.returns-else-get
returns-else-get c =
    let s = c.self.inside in
    let below : c.args.i < length s.valid = omega (arith, length-zip2 string_entry s.valid s.texts c.self.invariant, ap length c.self.view_is, c.requires) in
    string_null_at s.valid s.texts c.args.i c.self.invariant below (sym c.if-get.false ∙ c.get.ensures) ∙ ap (λ l. get_or l c.args.i None) c.self.view_is
