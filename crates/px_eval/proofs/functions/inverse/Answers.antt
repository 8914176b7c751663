use Rattle.px_semantics.specs.Logic.{inverse_rows}
use Rattle.px_column.specs.Buffers.{values_of}
use Rattle.px_eval.proofs.Kernels.{answer_is}
use Rattle.px_eval.proofs.functions.inverse.Goals as goal

pub returns : goal.returns
returns c = answer_is (inverse_rows (values_of c.args.a.now)) c.inverse.result c.inverse.ensures.value_type c.inverse.ensures.rows
