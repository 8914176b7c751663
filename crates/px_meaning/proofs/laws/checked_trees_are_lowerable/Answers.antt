use Rattle.px_meaning.proofs.Lowerable.{check-lowerable}
use Rattle.px_meaning.proofs.laws.checked_trees_are_lowerable.Goals as goal

pub returns : goal.returns
returns g = λ c t v e. check-lowerable c t v e
