use Rattle.px_extremes.proofs.Positions.{arg_min_of_nulls}
use Rattle.px_extremes.proofs.places.least_place.Goals as goal

pub returns-in-Null : goal.returns-in-Null
returns-in-Null c = rw c.in-Null.is (arg_min_of_nulls c.in-Null.field-0)
