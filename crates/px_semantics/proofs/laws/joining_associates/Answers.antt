use Rattle.px_semantics.proofs.LawLemmas.{broadcast_associates}
use Rattle.px_semantics.proofs.laws.joining_associates.Goals as goal

pub returns : goal.returns
returns c = broadcast_associates
