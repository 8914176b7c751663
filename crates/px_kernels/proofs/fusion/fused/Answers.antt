use Rattle.std.proofs.Common.{◌∙◌, sym}
use Rattle.px_kernels.proofs.fusion.fused.Goals as goal

pub fused_buffers-requires-clause-integer : goal.fused_buffers-requires-clause-integer
fused_buffers-requires-clause-integer c = rw c.buffer.ensures.value_type c.requires.integer

pub fused_buffers-requires-clause-same : goal.fused_buffers-requires-clause-same
fused_buffers-requires-clause-same c = c.buffer.ensures.value_type ∙ c.requires.same ∙ sym c.buffer-2.ensures.value_type

pub fused_buffers-requires-clause-third : goal.fused_buffers-requires-clause-third
fused_buffers-requires-clause-third c = c.buffer-2.ensures.value_type ∙ c.requires.third ∙ sym c.buffer-3.ensures.value_type
