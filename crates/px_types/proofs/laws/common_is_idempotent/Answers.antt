use Rattle.px_types.proofs.CommonTypes.{common_dtype-same, common-same}
use Rattle.px_types.proofs.laws.common_is_idempotent.Goals as goal

pub returns : goal.returns
returns c = (common_dtype-same, common-same)
