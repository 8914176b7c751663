use Rattle.px_semantics.proofs.FusedRows.{product_with_sum, product_with_sum_columns}
use Rattle.px_semantics.proofs.laws.product_with_sum_fuses.Goals as goal

pub returns-clause-rows : goal.returns-clause-rows
returns-clause-rows c = product_with_sum

pub returns-clause-columns : goal.returns-clause-columns
returns-clause-columns c = product_with_sum_columns
