use Rattle.std.proofs.Common.{◌∙◌, sym}
use Rattle.px_kernels.proofs.comparison.compare.Goals as goal

pub compare_buffers-requires-clause-same : goal.compare_buffers-requires-clause-same
compare_buffers-requires-clause-same c = c.buffer.ensures.value_type ∙ c.requires.same ∙ sym c.buffer-2.ensures.value_type
