use Rattle.px_semantics.proofs.FusedRows.{sum_with_product, sum_with_product_columns}
use Rattle.px_semantics.proofs.laws.sum_with_product_fuses.Goals as goal

pub returns-clause-rows : goal.returns-clause-rows
returns-clause-rows c = sum_with_product

pub returns-clause-columns : goal.returns-clause-columns
returns-clause-columns c = sum_with_product_columns
