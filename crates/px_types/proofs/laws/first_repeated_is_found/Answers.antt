use Rattle.px_types.proofs.RepeatedNames.{first_repeated-found}
use Rattle.px_types.proofs.laws.first_repeated_is_found.Goals as goal

pub returns : goal.returns
returns c = first_repeated-found
