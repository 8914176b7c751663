use Rattle.std.proofs.Common.{◌∙◌, ℤ, pos, unsigned_abs, ap, sym, map, length, is_some}
use Rattle.std.specs.Simd.Lanes.{zip2}
use Rattle.std.proofs.lemmas.List.{length-map}
use Rattle.px_types.specs.Integers.{into, InRange}
use Rattle.px_semantics.specs.Rows.{entry, on_integer}
use Rattle.px_arrays.proofs.Entries.{on_entries}
use Rattle.px_kernels.proofs.CastRows.{each_inside}
use Rattle.px_elementwise.proofs.numbers.absolute_integers.Goals as goal

pub from_parts-requires : goal.from_parts-requires
from_parts-requires g c =
    let k = g.T.Integer.value_type in
    let f : ℤ → ℤ = λ z. into k (pos (unsigned_abs z)) in
    let zs = map g.T.Integer.integer c.values.result.now in
    let same_length = ap length c.valid.ensures ∙ length-map c.args.a.now is_some ∙ sym c.values.ensures.same_length ∙ sym (length-map c.values.result.now g.T.Integer.integer) in
    record {
      same_length = ap length c.in_ok-valid.ensures ∙ same_length ∙ sym (length-map zs f) ∙ sym (ap length c.in_ok-values.ensures);
      inside = rw c.in_ok-values.ensures (each_inside (InRange k) f (λ z. g.met.T.Integer.into_range (pos (unsigned_abs z))) zs);
    }

pub returns : goal.returns
returns g c =
    let f : ℤ → ℤ = λ z. into g.T.Integer.value_type (pos (unsigned_abs z)) in
    let zs = map g.T.Integer.integer c.values.result.now in
    c.from_parts.ensures ∙ rw (c.in_ok-valid.ensures, c.in_ok-values.ensures) (on_entries f c.valid.result.now zs)
    ∙ ap (map (on_integer f)) (ap (λ l. zip2 entry l zs) c.valid.ensures ∙ c.values.ensures.entries)
