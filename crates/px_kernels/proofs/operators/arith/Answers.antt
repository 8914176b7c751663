use Rattle.std.proofs.Common.{◌∙◌, sym}
use Rattle.px_kernels.proofs.operators.arith.Goals as goal

pub arith_buffers-requires-clause-integer : goal.arith_buffers-requires-clause-integer
arith_buffers-requires-clause-integer c = rw c.buffer.ensures.value_type c.requires.integer

pub arith_buffers-requires-clause-same : goal.arith_buffers-requires-clause-same
arith_buffers-requires-clause-same c = c.buffer.ensures.value_type ∙ c.requires.same ∙ sym c.buffer-2.ensures.value_type
