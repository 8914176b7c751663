use Rattle.std.proofs.Common.{◌∙◌, sym}
use Rattle.px_elementwise.proofs.bounds.fill_null.Goals as goal

pub fill_null_buffers-requires : goal.fill_null_buffers-requires
fill_null_buffers-requires c = c.buffer.ensures.value_type ∙ c.requires ∙ sym c.buffer-2.ensures.value_type
