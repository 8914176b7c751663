use Rattle.px_selection.proofs.slices.slice.Goals as goal

pub slice_buffers-requires-clause-offset : goal.slice_buffers-requires-clause-offset
slice_buffers-requires-clause-offset c = rw c.buffer-2.ensures.value_type c.requires.offset

pub slice_buffers-requires-clause-count : goal.slice_buffers-requires-clause-count
slice_buffers-requires-clause-count c = rw c.buffer-3.ensures.value_type c.requires.length
