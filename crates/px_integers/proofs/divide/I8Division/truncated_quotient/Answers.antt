use Rattle.std.proofs.Common.{arith}
use Rattle.std.specs.Int.{w8}
use Rattle.std.proofs.lemmas.Int.{ints}
use Rattle.px_integers.proofs.FloorDivision.{wrapped_quotient}
use Rattle.px_integers.proofs.divide.I8Division.truncated_quotient.Goals as goal

pub returns : goal.returns
returns c = wrapped_quotient w8 c.args.self c.args.divisor c.wrapping_div.result c.wrapping_div.ensures c.ranges.self c.ranges.divisor (omega (arith, ints, c.ranges.self))
