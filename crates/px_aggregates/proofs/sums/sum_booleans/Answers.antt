use Rattle.std.proofs.Common.{arith}
use Rattle.px_aggregates.proofs.RowCounts.{boolean_sum}
use Rattle.px_aggregates.proofs.sums.sum_booleans.Goals as goal

pub returns : goal.returns
returns c = boolean_sum c.args.rows.now c.true_count.result c.len.ensures.typed c.true_count.ensures (omega (arith, c.true_count.type_inv))
