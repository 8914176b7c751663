use Rattle.px_types.proofs.CommonTypes.{common_dtype-null, common-null}
use Rattle.px_types.proofs.laws.null_is_neutral.Goals as goal

pub returns : goal.returns
returns c = (common_dtype-null, common-null)
