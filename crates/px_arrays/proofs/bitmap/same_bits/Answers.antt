use Rattle.px_arrays.proofs.Counts.{ones_shifted, none_set}
use Rattle.px_arrays.proofs.bitmap.same_bits.Goals as goal

pub returns-then-count-gt0 : goal.returns-then-count-gt0
returns-then-count-gt0 c = ones_shifted c.args.count c.args.bit c.if-bit.true c.requires

pub returns-else-bit : goal.returns-else-bit
returns-else-bit c = none_set c.args.count c.args.bit c.else-bit.either
