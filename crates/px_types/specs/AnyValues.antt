-- Integer literals as values.
use Rattle.std.specs.Prelude.{ℤ, nat_abs, Option, Some, None, option_and_then}
use Rattle.px_types.specs.declared.value_type.ValueType.{ValueType}
use Rattle.px_types.specs.declared.value_type.ValueType.TheVariants as value
use Rattle.px_types.specs.declared.any_value.AnyValue.{AnyValue}
use Rattle.px_types.specs.declared.any_value.AnyValue.TheVariants as any
use Rattle.px_types.specs.ValueTypes.{default_type}

-- the integer as a value of a type that is a default type
abbrev value_of : ℤ → ValueType → Option AnyValue
value_of z value.Int32 = Some (any.Int32 z)
value_of z value.Int64 = Some (any.Int64 z)
value_of z value.UInt64 = Some (any.UInt64 (nat_abs z))
value_of z _ = None

-- the integer literal in its default type
abbrev pub materialized : ℤ → Option AnyValue
materialized z = option_and_then (value_of z) (default_type z)
