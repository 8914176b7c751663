use Rattle.std.proofs.Common.{◌∙◌, ap, sym, nat_lt, count_by, not, is_none}
use Rattle.px_aggregates.proofs.RowCounts.{nulls_counted, any_counted}
use Rattle.px_aggregates.proofs.booleans.has_null.Goals as goal

pub returns : goal.returns
returns c =
    let rows = c.args.rows.now in
    ap (nat_lt 0) (c.zeros.ensures.count ∙ ap (count_by not) c.valid.ensures ∙ nulls_counted rows) ∙ sym (any_counted is_none rows)
