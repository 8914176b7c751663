use Rattle.std.proofs.Common.{◌∙◌, sym, ap, length, map, is_some}
use Rattle.std.specs.Simd.Lanes.{zip2}
use Rattle.std.proofs.lemmas.List.{length-map}
use Rattle.px_semantics.specs.Arithmetic.{nonzero_row}
use Rattle.px_semantics.specs.Rows.{entry}
use Rattle.px_kernels.proofs.DividedRows.{nonzero_numbers}
use Rattle.px_kernels.proofs.operators.nonzero.Goals as goal

pub from_parts-requires : goal.from_parts-requires
from_parts-requires g c =
    let n = g.T.Integer.integer in
    let row = c.args.row.now in
    let items = c.in_ok-values.ensures.items in
    record {
      same_length = ap length c.in_ok-valid.ensures ∙ length-map (map nonzero_row row) is_some ∙ length-map row nonzero_row
          ∙ sym (length-map c.in_ok-values.values.items n ∙ ap length items ∙ c.values.ensures.same_length);
      inside = rw items c.values.ensures.inside;
    }

pub returns : goal.returns
returns g c =
    let n = g.T.Integer.integer in
    c.from_parts.ensures
    ∙ ap (λ l. zip2 entry c.in_ok-valid.valid (map n l)) c.in_ok-values.ensures.items
    ∙ ap (λ l. zip2 entry l (map n c.values.result.now)) c.in_ok-valid.ensures
    ∙ nonzero_numbers c.args.row.now (map n c.values.result.now) c.values.ensures.entries
