use Rattle.px_types.proofs.SupertypeLemmas.{common_type-same}
use Rattle.px_types.proofs.laws.supertype_is_idempotent.Goals as goal

pub returns : goal.returns
returns c = common_type-same
