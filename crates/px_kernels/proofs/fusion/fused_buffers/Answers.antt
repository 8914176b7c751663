use Rattle.px_column.specs.Buffers.{values_of}
use Rattle.px_kernels.proofs.FormRows.{fused_answer}
use Rattle.px_kernels.proofs.fusion.fused_buffers.Goals as goal

pub returns : goal.returns
returns c = record { rows = fused_answer c.args.op (values_of c.args.a.now) (values_of c.args.b.now) (values_of c.args.c.now) c.fuse.result c.fuse.ensures.value_type c.fuse.ensures.rows }
