use Rattle.px_column.specs.ColumnOf.{rows_of}
use Rattle.px_aggregates.proofs.RowCounts.{nulls_left_out}
use Rattle.px_aggregates.proofs.counts.row_count.Goals as goal

pub returns : goal.returns
returns c = nulls_left_out c.args.include_nulls (rows_of c.args.a.now) c.len-2.result c.null_count.result c.if-include_nulls.false c.len-2.ensures.rows c.null_count.ensures
