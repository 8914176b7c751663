use Rattle.px_meaning.proofs.Means.{rows-typed}
use Rattle.px_meaning.proofs.Typing.{HasType-Has}
use Rattle.px_meaning.proofs.laws.checked_trees_mean_columns.Goals as goal

pub returns-clause-value_type : goal.returns-clause-value_type
returns-clause-value_type g = λ c t k frame v h fits e. (rows-typed c frame fits t k (HasType-Has c t k h) v e).value_type

pub returns-clause-column : goal.returns-clause-column
returns-clause-column g = λ c t k frame v h fits e. (rows-typed c frame fits t k (HasType-Has c t k h) v e).column
