use Rattle.std.proofs.Common.{◌∙◌, ap, sym, map, length, is_some}
use Rattle.std.specs.Simd.Lanes.{zip2}
use Rattle.std.proofs.lemmas.List.{length-map}
use Rattle.px_semantics.specs.Casts.{as_integer, cast_row}
use Rattle.px_types.specs.Integers.{into, InRange}
use Rattle.px_types.specs.declared.type_parts.CastOptions.TheVariants.{Overflowing}
use Rattle.px_semantics.specs.Rows.{entry}
use Rattle.px_kernels.proofs.CastRows.{each_inside, residue_entries}
use Rattle.px_kernels.proofs.casts.wrapped_integers.Goals as goal

pub from_parts-requires : goal.from_parts-requires
from_parts-requires g c =
    let k = g.T.Integer.value_type in
    let zs = map g.S.Integer.integer c.values.result.now in
    let same_length = ap length c.valid.ensures ∙ length-map c.args.a.now is_some ∙ sym c.values.ensures.same_length ∙ sym (length-map c.values.result.now g.S.Integer.integer) in
    record {
      same_length = ap length c.in_ok-valid.ensures ∙ same_length ∙ sym (length-map zs (into k)) ∙ sym (ap length c.in_ok-values.ensures);
      inside = rw c.in_ok-values.ensures (each_inside (InRange k) (into k) g.met.T.Integer.into_range zs);
    }

pub returns : goal.returns
returns g c =
    let k = g.T.Integer.value_type in
    let zs = map g.S.Integer.integer c.values.result.now in
    c.from_parts.ensures ∙ rw (c.in_ok-valid.ensures, c.in_ok-values.ensures) (residue_entries k c.valid.result.now zs)
    ∙ ap (map (cast_row (as_integer Overflowing k))) (ap (λ l. zip2 entry l zs) c.valid.ensures ∙ c.values.ensures.entries)
