use Rattle.px_base.proofs.Exact.{same-answers}
use Rattle.px_types.specs.contracts.value_type.ValueType.{the_row}
use Rattle.px_coercion.proofs.types.is_type.Goals as goal

pub returns : goal.returns
returns c = same-answers the_row.coded c.same_type.result c.args.a c.args.b c.same_type.ensures.0 c.same_type.ensures.1
