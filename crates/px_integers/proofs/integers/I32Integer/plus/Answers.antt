use Rattle.std.proofs.Common.{rules}
use Rattle.std.proofs.lemmas.Int.{wraps}
use Rattle.px_integers.proofs.integers.I32Integer.plus.Goals as goal

pub returns : goal.returns
returns c = search (rules, wraps)
