use Rattle.px_kernels.proofs.casts.cast.Goals as goal

pub cast_buffer-requires : goal.cast_buffer-requires
cast_buffer-requires c = rw c.buffer.ensures.value_type c.requires
