-- Sums of rows, a step at a time.
use Rattle.std.specs.Prelude.{ℤ, ◌+ℤ◌, ◌⊎◌, Bool, cond, Option, Some, None, ◌≡◌}
use Rattle.px_types.specs.Integers.{into, IsInteger}
use Rattle.px_types.specs.declared.value_type.ValueType.{ValueType}
use Rattle.px_semantics.specs.Aggregates.{number_of}
use Rattle.px_semantics.specs.Horizontals.{sum_horizontal_type}
use Rattle.px_semantics.specs.Rows.{Row, IsBoolean, on_integer}

-- a sum so far and one number more, taken into the type; without a number null, or the sum where nulls are ignored
abbrev pub added_number : Bool → ValueType → Row → Option ℤ → Row
added_number ignore_nulls value_type total (Some z) = on_integer (λ a. into value_type (a +ℤ z)) total
added_number ignore_nulls value_type total None = cond ignore_nulls total None

-- the same of a row, of which true counts 1 and false 0
abbrev pub added : Bool → ValueType → Row → Row → Row
added ignore_nulls value_type total row = added_number ignore_nulls value_type total (number_of row)

-- sums of the first type are those of Booleans or of integers of the second
abbrev pub SumsUp : ValueType → ValueType → Type 0
SumsUp total value_type = (IsBoolean value_type ⊎ IsInteger value_type) × (sum_horizontal_type value_type ≡ total)
