use Rattle.px_column.specs.Buffers.{values_of}
use Rattle.px_eval.proofs.Kernels.{logic_answer}
use Rattle.px_eval.proofs.operators.logic.Goals as goal

pub returns : goal.returns
returns c = record { rows = logic_answer c.args.op (values_of c.args.a.now) (values_of c.args.b.now) c.logic.result c.logic.ensures.value_type c.logic.ensures.rows }
