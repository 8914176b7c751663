use Rattle.px_extremes.proofs.IntegerReductions.{and_itself, or_itself}
use Rattle.px_extremes.proofs.integers.reduce_integers.Goals as goal

pub reduce_valid-requires : goal.reduce_valid-requires
reduce_valid-requires g c = λ z h. and_itself g.T.Integer.value_type z h

pub reduce_valid-requires-in-Or : goal.reduce_valid-requires-in-Or
reduce_valid-requires-in-Or g c = λ z h. or_itself g.T.Integer.value_type z h

pub returns-in-And : goal.returns-in-And
returns-in-And g c = rw c.in-And.is c.reduce_valid.ensures

pub returns-in-Or : goal.returns-in-Or
returns-in-Or g c = rw c.in-Or.is c.reduce_valid-in-Or.ensures

pub returns-in-Xor : goal.returns-in-Xor
returns-in-Xor g c = rw c.in-Xor.is c.xor_valid.ensures
