use Rattle.px_elementwise.proofs.numbers.sign.Goals as goal

pub sign_buffer-requires : goal.sign_buffer-requires
sign_buffer-requires c = rw c.buffer.ensures.value_type c.requires
