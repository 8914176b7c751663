use Rattle.px_types.proofs.SupertypeLemmas.{common_type-swaps}
use Rattle.px_types.proofs.laws.supertype_is_commutative.Goals as goal

pub returns : goal.returns
returns c = common_type-swaps
