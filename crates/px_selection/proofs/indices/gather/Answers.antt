use Rattle.px_selection.proofs.indices.gather.Goals as goal

pub gather_buffers-requires : goal.gather_buffers-requires
gather_buffers-requires c = rw c.buffer-2.ensures.value_type c.requires
