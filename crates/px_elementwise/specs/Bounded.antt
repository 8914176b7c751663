-- Types whose values have bounds, and bounds that may be left out.
use Rattle.std.specs.Prelude.{◌≡◌, ◌⊎◌, Option, Some, None}
use Rattle.px_types.specs.Integers.{IsInteger}
use Rattle.px_types.specs.declared.value_type.ValueType.{ValueType}
use Rattle.px_semantics.specs.Rows.{TypedRows, IsString}

-- the type is an integer type, or that of strings
abbrev pub IsBounded : ValueType → Type 0
IsBounded k = IsInteger k ⊎ IsString k

-- the bound, if there is one, is of the type
abbrev pub IsBoundOf : ValueType → Option TypedRows → Type 0
IsBoundOf k None = Unit {0}
IsBoundOf k (Some bound) = bound.value_type ≡ k
