use Rattle.px_semantics.proofs.LawLemmas.{and_associates, or_associates}
use Rattle.px_semantics.proofs.laws.logic_associates.Goals as goal

pub returns-clause-and : goal.returns-clause-and
returns-clause-and c = and_associates

pub returns-clause-or : goal.returns-clause-or
returns-clause-or c = or_associates
