use Rattle.std.proofs.Common.{◌≡◌, ◌∙◌, ℤ, ap, sym, subst, map, length, is_some}
use Rattle.std.specs.Simd.Lanes.{zip2, Each1}
use Rattle.std.proofs.lemmas.List.{length-map, map-id}
use Rattle.px_types.specs.Integers.{InRange}
use Rattle.px_types.specs.declared.value_type.ValueType.TheVariants.{Int64}
use Rattle.px_semantics.specs.Bounds.{sign_of}
use Rattle.px_semantics.specs.Rows.{entry, on_integer}
use Rattle.px_arrays.proofs.Entries.{on_entries}
use Rattle.px_kernels.proofs.CastRows.{each_inside}
use Rattle.px_elementwise.proofs.Signed.{sign_inside}
use Rattle.px_elementwise.proofs.numbers.sign_integers.Goals as goal

pub from_parts-requires : goal.from_parts-requires
from_parts-requires g c =
    let n = g.T.Integer.integer in
    let zs = map n c.values.result.now in
    let signs : map (λ (z : ℤ). z) c.in_ok-values.values.items ≡ map sign_of zs = map-id c.in_ok-values.values.items ∙ c.in_ok-values.ensures in
    record {
      same_length = ap length (c.in_ok-valid.ensures ∙ c.valid.ensures) ∙ length-map c.args.a.now is_some ∙ sym c.values.ensures.same_length
          ∙ sym (length-map c.values.result.now n) ∙ sym (length-map zs sign_of) ∙ sym (ap length signs);
      inside = subst (λ l. Each1 (InRange Int64) l) (sym signs) (each_inside (InRange Int64) sign_of sign_inside zs);
    }

pub returns : goal.returns
returns g c =
    let zs = map g.T.Integer.integer c.values.result.now in
    let signs : map (λ (z : ℤ). z) c.in_ok-values.values.items ≡ map sign_of zs = map-id c.in_ok-values.values.items ∙ c.in_ok-values.ensures in
    c.from_parts.ensures ∙ ap (λ l. zip2 entry l (map (λ (z : ℤ). z) c.in_ok-values.values.items)) c.in_ok-valid.ensures
    ∙ ap (zip2 entry c.valid.result.now) signs ∙ on_entries sign_of c.valid.result.now zs
    ∙ ap (map (on_integer sign_of)) (ap (λ l. zip2 entry l zs) c.valid.ensures ∙ c.values.ensures.entries)
