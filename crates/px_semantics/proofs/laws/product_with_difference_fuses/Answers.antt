use Rattle.px_semantics.proofs.FusedRows.{product_with_difference, product_with_difference_columns}
use Rattle.px_semantics.proofs.laws.product_with_difference_fuses.Goals as goal

pub returns-clause-rows : goal.returns-clause-rows
returns-clause-rows c = product_with_difference

pub returns-clause-columns : goal.returns-clause-columns
returns-clause-columns c = product_with_difference_columns
