use Rattle.px_meaning.proofs.Gives.{check-gives}
use Rattle.px_meaning.proofs.laws.the_check_gives_checked_trees.Goals as goal

pub returns : goal.returns
returns g = λ c t v e. check-gives c t v e
