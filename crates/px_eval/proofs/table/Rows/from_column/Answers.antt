use Rattle.px_eval.proofs.Kernels.{buffer_is}
use Rattle.px_eval.proofs.table.Rows.from_column.Goals as goal

pub returns : goal.returns
returns c = buffer_is c.args.column.now.values c.buffer.result.now c.buffer.ensures.value_type c.buffer.ensures.rows
