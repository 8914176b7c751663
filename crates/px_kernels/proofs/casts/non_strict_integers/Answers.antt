use Rattle.std.proofs.Common.{◌∙◌, ap, sym, map, length, is_some, pos, false}
use Rattle.std.specs.Simd.Lanes.{zip2}
use Rattle.std.proofs.lemmas.List.{length-map}
use Rattle.px_semantics.specs.Casts.{as_integer, cast_row}
use Rattle.px_types.specs.declared.type_parts.CastOptions.TheVariants.{NonStrict}
use Rattle.px_semantics.specs.Rows.{entry}
use Rattle.px_semantics.proofs.CastLemmas.{bit_in}
use Rattle.px_kernels.specs.Casting.{number_in_range}
use Rattle.px_kernels.proofs.CastRows.{in_range_long, in_range_inside, known_entries}
use Rattle.px_kernels.proofs.casts.non_strict_integers.Goals as goal

pub in_range_validity-requires : goal.in_range_validity-requires
in_range_validity-requires g c = c.values-numbers.ensures.same_length ∙ sym (ap length c.valid.ensures ∙ length-map c.args.a.now is_some)

pub from_parts-requires : goal.from_parts-requires
from_parts-requires g c =
    let k = g.T.Integer.value_type in
    let zs = map g.S.Integer.integer c.values-numbers.result.now in
    let us = c.valid.result.now in
    let same_length = ap length c.valid.ensures ∙ length-map c.args.a.now is_some ∙ sym c.values-numbers.ensures.same_length ∙ sym (length-map c.values-numbers.result.now g.S.Integer.integer) in
    record {
      same_length = ap length c.in_ok-valid.ensures ∙ in_range_long k us zs same_length ∙ sym (length-map zs (number_in_range k)) ∙ sym (ap length c.in_ok-values.ensures);
      inside = rw c.in_ok-values.ensures (in_range_inside k zs (bit_in k _ false (g.met.T.Integer.into_range (pos 0))));
    }

pub returns : goal.returns
returns g c =
    let k = g.T.Integer.value_type in
    let zs = map g.S.Integer.integer c.values-numbers.result.now in
    c.from_parts.ensures ∙ rw (c.in_ok-valid.ensures, c.in_ok-values.ensures) (known_entries k c.valid.result.now zs)
    ∙ ap (map (cast_row (as_integer NonStrict k))) (ap (λ l. zip2 entry l zs) c.valid.ensures ∙ c.values-numbers.ensures.entries)
