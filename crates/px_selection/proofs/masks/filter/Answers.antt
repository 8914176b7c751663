use Rattle.px_selection.proofs.masks.filter.Goals as goal

pub filter_buffers-requires : goal.filter_buffers-requires
filter_buffers-requires c = rw c.buffer-2.ensures.value_type c.requires
