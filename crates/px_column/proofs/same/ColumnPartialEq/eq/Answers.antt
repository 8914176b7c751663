use Rattle.px_base.proofs.Exact.{same-answers}
use Rattle.px_column.specs.contracts.column.Column.{the_row}
use Rattle.px_column.proofs.same.ColumnPartialEq.eq.Goals as goal

pub returns-clause-value : goal.returns-clause-value
returns-clause-value c = same-answers the_row.coded c.same_column.result c.args.self.now c.args.other.now c.same_column.ensures.0 c.same_column.ensures.1
