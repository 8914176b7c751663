use Rattle.std.proofs.Common.{◌∙◌, sym}
use Rattle.px_elementwise.proofs.bounds.is_between.Goals as goal

pub is_between_buffers-requires-clause-lower : goal.is_between_buffers-requires-clause-lower
is_between_buffers-requires-clause-lower c = c.buffer.ensures.value_type ∙ c.requires.lower ∙ sym c.buffer-2.ensures.value_type

pub is_between_buffers-requires-clause-upper : goal.is_between_buffers-requires-clause-upper
is_between_buffers-requires-clause-upper c = c.buffer.ensures.value_type ∙ c.requires.upper ∙ sym c.buffer-3.ensures.value_type
