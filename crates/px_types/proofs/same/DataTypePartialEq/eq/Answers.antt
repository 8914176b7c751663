use Rattle.px_base.proofs.Exact.{same-answers}
use Rattle.px_types.specs.contracts.dtype.DataType.{the_row}
use Rattle.px_types.proofs.same.DataTypePartialEq.eq.Goals as goal

pub returns-clause-value : goal.returns-clause-value
returns-clause-value c = same-answers the_row.coded c.same_dtype.result c.args.self.now c.args.other.now c.same_dtype.ensures.0 c.same_dtype.ensures.1
