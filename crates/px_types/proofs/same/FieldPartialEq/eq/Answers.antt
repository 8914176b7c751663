use Rattle.px_base.proofs.Exact.{same-answers}
use Rattle.px_types.specs.contracts.dtype.Field.{the_row}
use Rattle.px_types.proofs.same.FieldPartialEq.eq.Goals as goal

pub returns-clause-value : goal.returns-clause-value
returns-clause-value c = same-answers the_row.coded c.same_field.result c.args.self.now c.args.other.now c.same_field.ensures.0 c.same_field.ensures.1
