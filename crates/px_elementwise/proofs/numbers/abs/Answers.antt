use Rattle.px_elementwise.proofs.numbers.abs.Goals as goal

pub abs_buffer-requires : goal.abs_buffer-requires
abs_buffer-requires c = rw c.buffer.ensures.value_type c.requires
