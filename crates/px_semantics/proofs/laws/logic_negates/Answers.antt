use Rattle.px_semantics.proofs.LawLemmas.{not-and, not-or, not-not}
use Rattle.px_semantics.proofs.laws.logic_negates.Goals as goal

pub returns-clause-not_of_and : goal.returns-clause-not_of_and
returns-clause-not_of_and c = not-and

pub returns-clause-not_of_or : goal.returns-clause-not_of_or
returns-clause-not_of_or c = not-or

pub returns-clause-not_of_not : goal.returns-clause-not_of_not
returns-clause-not_of_not c = not-not
