use Rattle.std.proofs.Common.{◌∙◌, sym}
use Rattle.px_kernels.proofs.selection.zip_with.Goals as goal

pub zip_with_buffers-requires-clause-mask : goal.zip_with_buffers-requires-clause-mask
zip_with_buffers-requires-clause-mask c = rw c.buffer.ensures.value_type c.requires.mask

pub zip_with_buffers-requires-clause-same : goal.zip_with_buffers-requires-clause-same
zip_with_buffers-requires-clause-same c = c.buffer-2.ensures.value_type ∙ c.requires.same ∙ sym c.buffer-3.ensures.value_type
