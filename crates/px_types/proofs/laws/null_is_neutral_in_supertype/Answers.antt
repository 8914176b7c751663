use Rattle.px_types.proofs.SupertypeLemmas.{common_type-null}
use Rattle.px_types.proofs.laws.null_is_neutral_in_supertype.Goals as goal

pub returns : goal.returns
returns c = common_type-null
