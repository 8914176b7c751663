use Rattle.std.proofs.Common.{◌∙◌, ℤ, pos, ap, sym, map, length, is_some}
use Rattle.std.specs.Simd.Lanes.{zip2}
use Rattle.std.proofs.lemmas.List.{length-map}
use Rattle.px_semantics.specs.Bits.{bit_count_row, count_integer}
use Rattle.px_semantics.specs.Rows.{entry}
use Rattle.px_elementwise.proofs.CountRows.{counts_inside, counted_entries}
use Rattle.px_elementwise.proofs.bits.counted_integers.Goals as goal

pub from_parts-requires : goal.from_parts-requires
from_parts-requires g c =
    let n = g.T.Integer.integer in
    let f : ℤ → ℤ = λ z. pos (count_integer c.args.function g.T.Integer.value_type z) in
    let zs = map n c.values.result.now in
    record {
      same_length = ap length (c.in_ok-valid.ensures ∙ c.valid.ensures) ∙ length-map c.args.a.now is_some ∙ sym c.values.ensures.same_length
          ∙ sym (length-map c.values.result.now n) ∙ sym (length-map zs f) ∙ sym (ap length c.in_ok-values.ensures.values);
      inside = counts_inside c.in_ok-values.values.items (map f zs) c.in_ok-values.ensures.values c.in_ok-values.ensures.inside;
    }

pub returns : goal.returns
returns g c =
    let k = g.T.Integer.value_type in
    let f : ℤ → ℤ = λ z. pos (count_integer c.args.function k z) in
    let zs = map g.T.Integer.integer c.values.result.now in
    c.from_parts.ensures ∙ ap (λ l. zip2 entry l (map pos c.in_ok-values.values.items)) c.in_ok-valid.ensures
    ∙ ap (zip2 entry c.valid.result.now) c.in_ok-values.ensures.values ∙ counted_entries c.args.function k c.valid.result.now zs
    ∙ ap (map (bit_count_row c.args.function k)) (ap (λ l. zip2 entry l zs) c.valid.ensures ∙ c.values.ensures.entries)
