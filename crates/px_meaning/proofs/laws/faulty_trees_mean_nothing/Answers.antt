use Rattle.px_meaning.proofs.Nothing.{nothing-fault, fault-nothing}
use Rattle.px_meaning.proofs.Typing.{HasType-Has}
use Rattle.px_meaning.proofs.laws.faulty_trees_mean_nothing.Goals as goal

pub returns-clause-nothing : goal.returns-clause-nothing
returns-clause-nothing g = λ c t k frame h fits e. nothing-fault c frame fits t k (HasType-Has c t k h) e

pub returns-clause-faulty : goal.returns-clause-faulty
returns-clause-faulty g = λ c t k frame f h fits e. fault-nothing c frame fits t k (HasType-Has c t k h) f e
