use Rattle.std.proofs.Common.{◌∙◌, sym, map, is_some, not, refl}
use Rattle.std.specs.Simd.Lanes.{zip2}
use Rattle.std.proofs.lemmas.List.{length-map}
use Rattle.std.proofs.lemmas.Result.{IfOk-weaker}
use Rattle.px_semantics.specs.Arithmetic.{is_zero}
use Rattle.px_semantics.specs.Casts.{as_boolean}
use Rattle.px_semantics.specs.Rows.{entry, boolean_entry}
use Rattle.px_kernels.proofs.CastRows.{integers_cast, casts_at}
use Rattle.px_kernels.proofs.casts.integers_as_booleans.Goals as goal

pub from_flags-requires : goal.from_flags-requires
from_flags-requires g c =
    let zs = map g.T.Integer.integer c.values.result.now in
    rw (c.as_slice.ensures.value, c.in_ok-flags.ensures, c.in_ok-valid.ensures, c.valid.ensures)
    (length-map zs (λ z. not (is_zero z)) ∙ length-map c.values.result.now g.T.Integer.integer ∙ c.values.ensures.same_length ∙ sym (length-map c.args.a.now is_some))

pub returns : goal.returns
returns g c =
    let zs = map g.T.Integer.integer c.values.result.now in
    let us = map is_some c.args.a.now in
    IfOk-weaker c.from_flags.result _ _
    (λ r e. casts_at as_boolean (zip2 entry us zs) c.args.a.now (zip2 boolean_entry (map (λ z. not (is_zero z)) zs) us) r c.values.ensures.entries
    (e ∙ rw (c.as_slice.ensures.value, c.in_ok-flags.ensures, c.in_ok-valid.ensures, c.valid.ensures) refl) (integers_cast us zs))
    c.from_flags.ensures
