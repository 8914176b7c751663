-- Single values as rows.
use Rattle.std.specs.Prelude.{◌≡◌, pos, Some, None}
use Rattle.px_semantics.specs.Rows.{Row, BooleanValue, StringValue, IntegerValue}
use Rattle.px_types.specs.declared.value_type.ValueType.{ValueType}
use Rattle.px_types.specs.declared.value_type.ValueType.TheVariants as value_type
use Rattle.px_types.specs.declared.any_value.AnyValue.{AnyValue}
use Rattle.px_types.specs.declared.any_value.AnyValue.TheVariants as any

-- the row of a value of a value type
abbrev pub row_of : AnyValue → Row
row_of (any.Boolean t) = Some (BooleanValue t)
row_of (any.String text) = Some (StringValue text.now)
row_of (any.UInt8 n) = Some (IntegerValue (pos n))
row_of (any.UInt16 n) = Some (IntegerValue (pos n))
row_of (any.UInt32 n) = Some (IntegerValue (pos n))
row_of (any.UInt64 n) = Some (IntegerValue (pos n))
row_of (any.Int8 z) = Some (IntegerValue z)
row_of (any.Int16 z) = Some (IntegerValue z)
row_of (any.Int32 z) = Some (IntegerValue z)
row_of (any.Int64 z) = Some (IntegerValue z)
row_of _ = None

-- the value is null or one of the type
abbrev pub IsValueOf : ValueType → AnyValue → Type 0
IsValueOf k any.Null = Unit {0}
IsValueOf k (any.Boolean t) = k ≡ value_type.Boolean
IsValueOf k (any.String text) = k ≡ value_type.String
IsValueOf k (any.UInt8 n) = k ≡ value_type.UInt8
IsValueOf k (any.UInt16 n) = k ≡ value_type.UInt16
IsValueOf k (any.UInt32 n) = k ≡ value_type.UInt32
IsValueOf k (any.UInt64 n) = k ≡ value_type.UInt64
IsValueOf k (any.Int8 z) = k ≡ value_type.Int8
IsValueOf k (any.Int16 z) = k ≡ value_type.Int16
IsValueOf k (any.Int32 z) = k ≡ value_type.Int32
IsValueOf k (any.Int64 z) = k ≡ value_type.Int64
IsValueOf k _ = ⊥
