use Rattle.std.proofs.Common.{ap}
use Rattle.px_semantics.specs.Aggregates.{one_row}
use Rattle.px_types.specs.declared.value_type.ValueType.TheVariants as value_type
use Rattle.px_extremes.proofs.Positions.{min_of_nulls}
use Rattle.px_extremes.proofs.extremes.min_buffer.Goals as goal

pub returns-in-Null : goal.returns-in-Null
returns-in-Null c = rw c.in-Null.is (ap (one_row value_type.Null) (min_of_nulls c.in-Null.field-0))
