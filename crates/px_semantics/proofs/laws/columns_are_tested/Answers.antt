use Rattle.px_semantics.proofs.ColumnLemmas.{is_column-column, column-is_column}
use Rattle.px_semantics.proofs.laws.columns_are_tested.Goals as goal

pub returns-clause-passes : goal.returns-clause-passes
returns-clause-passes c = λ v h. is_column-column v h

pub returns-clause-column : goal.returns-clause-column
returns-clause-column c = λ v h. column-is_column v h
