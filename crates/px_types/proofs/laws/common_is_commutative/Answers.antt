use Rattle.px_types.proofs.CommonTypes.{common_dtype-swaps, common-swaps}
use Rattle.px_types.proofs.laws.common_is_commutative.Goals as goal

pub returns : goal.returns
returns c = (common_dtype-swaps, common-swaps)
