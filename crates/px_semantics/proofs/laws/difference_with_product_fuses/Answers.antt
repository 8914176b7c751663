use Rattle.px_semantics.proofs.FusedRows.{difference_with_product, difference_with_product_columns}
use Rattle.px_semantics.proofs.laws.difference_with_product_fuses.Goals as goal

pub returns-clause-rows : goal.returns-clause-rows
returns-clause-rows c = difference_with_product

pub returns-clause-columns : goal.returns-clause-columns
returns-clause-columns c = difference_with_product_columns
