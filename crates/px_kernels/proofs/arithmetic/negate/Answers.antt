use Rattle.px_kernels.proofs.arithmetic.negate.Goals as goal

pub negate_buffer-requires : goal.negate_buffer-requires
negate_buffer-requires c = rw c.buffer.ensures.value_type c.requires
