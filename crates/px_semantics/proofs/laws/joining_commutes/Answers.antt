use Rattle.px_semantics.proofs.LawLemmas.{broadcast_commutes}
use Rattle.px_semantics.proofs.laws.joining_commutes.Goals as goal

pub returns : goal.returns
returns c = broadcast_commutes
