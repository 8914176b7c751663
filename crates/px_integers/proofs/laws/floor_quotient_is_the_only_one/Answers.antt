use Rattle.px_semantics.proofs.Quotients.{floor_quotient_only}
use Rattle.px_integers.proofs.laws.floor_quotient_is_the_only_one.Goals as goal

pub returns : goal.returns
returns c = floor_quotient_only
