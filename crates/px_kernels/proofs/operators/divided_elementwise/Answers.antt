use Rattle.std.proofs.Common.{◌∙◌, ◌&&◌, sym, ap, length, map, is_some}
use Rattle.std.proofs.lemmas.List.{length-map}
use Rattle.std.proofs.lemmas.Simd.{length-zip2}
use Rattle.px_semantics.specs.Arithmetic.{nonzero_row}
use Rattle.px_types.specs.Integers.{InRange}
use Rattle.px_arrays.proofs.Entries.{range_elementwise}
use Rattle.px_kernels.proofs.DividedRows.{divided_made}
use Rattle.px_kernels.proofs.operators.divided_elementwise.Goals as goal

pub and-requires : goal.and-requires
and-requires g c =
    ap length c.valid.ensures ∙ length-map c.args.a.now is_some ∙ c.requires
    ∙ sym (ap length c.in_ok-places.ensures ∙ length-map (map nonzero_row c.args.b.now) is_some ∙ length-map c.args.b.now nonzero_row)

pub from_parts-requires : goal.from_parts-requires
from_parts-requires g c =
    let n = g.T.Integer.integer in
    let f = g.O.Operation.meaning in
    let xs = map n c.values.result.now in
    let ys = map n c.values-2.result.now in
    let one = length-map c.values.result.now n ∙ c.values.ensures.same_length in
    let other = length-map c.values-2.result.now n ∙ c.values-2.ensures.same_length in
    let validity_of = ap length c.valid.ensures ∙ length-map c.args.a.now is_some in
    let divisors = ap length c.in_ok-places.ensures ∙ length-map (map nonzero_row c.args.b.now) is_some ∙ length-map c.args.b.now nonzero_row in
    record {
      same_length = ap length c.in_ok-valid.ensures ∙ length-zip2 (λ u v. u && v) c.valid.result.now c.in_ok-places.places (validity_of ∙ c.requires ∙ sym divisors) ∙ validity_of
          ∙ sym (ap length c.in_ok-values.ensures ∙ length-zip2 f xs ys (one ∙ c.requires ∙ sym other) ∙ one);
      inside = rw c.in_ok-values.ensures (range_elementwise (InRange g.T.Integer.value_type) f g.met.O.Operation.range xs ys c.values.ensures.inside c.values-2.ensures.inside);
    }

pub returns : goal.returns
returns g c =
    let n = g.T.Integer.integer in
    c.from_parts.ensures
    ∙ rw (c.in_ok-valid.ensures, c.in_ok-values.ensures, c.valid.ensures, c.in_ok-places.ensures)
    (divided_made g.O.Operation.meaning c.args.a.now c.args.b.now (map n c.values.result.now) (map n c.values-2.result.now) c.values.ensures.entries c.values-2.ensures.entries)
