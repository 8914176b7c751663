-- Value types, the types that have their values, and their common types.
use Rattle.std.specs.Prelude.{ℕ, ◌*◌, ◌^◌, max, ◌==◌, ℤ, pos, negsuc, ◌-◌, int_le, int_lt, Bool, false, ◌&&◌, if◌then◌else◌, Option, Some, None, option_and_then, option_map}
use Rattle.px_types.specs.declared.value_type.ValueType.{ValueType}
use Rattle.px_types.specs.declared.value_type.ValueType.TheVariants as value
use Rattle.px_types.specs.declared.dtype.DataType.{DataType, DataType-F, out-DataType}
use Rattle.px_types.specs.declared.dtype.DataType.TheVariants as dtype
use Rattle.px_types.specs.declared.dtype.Field.{Field}

-- the type of the same name
abbrev pub dtype_of : ValueType → DataType
dtype_of value.Null = dtype.Null
dtype_of value.Boolean = dtype.Boolean
dtype_of value.String = dtype.String
dtype_of value.UInt8 = dtype.UInt8
dtype_of value.UInt16 = dtype.UInt16
dtype_of value.UInt32 = dtype.UInt32
dtype_of value.UInt64 = dtype.UInt64
dtype_of value.Int8 = dtype.Int8
dtype_of value.Int16 = dtype.Int16
dtype_of value.Int32 = dtype.Int32
dtype_of value.Int64 = dtype.Int64

abbrev pub layer_value_type : DataType-F DataType Field → Option ValueType
layer_value_type DataType-F.Null = Some value.Null
layer_value_type DataType-F.Boolean = Some value.Boolean
layer_value_type DataType-F.String = Some value.String
layer_value_type DataType-F.UInt8 = Some value.UInt8
layer_value_type DataType-F.UInt16 = Some value.UInt16
layer_value_type DataType-F.UInt32 = Some value.UInt32
layer_value_type DataType-F.UInt64 = Some value.UInt64
layer_value_type DataType-F.Int8 = Some value.Int8
layer_value_type DataType-F.Int16 = Some value.Int16
layer_value_type DataType-F.Int32 = Some value.Int32
layer_value_type DataType-F.Int64 = Some value.Int64
layer_value_type _ = None

-- the value type of the same name, where there is one
abbrev pub value_type_of : DataType → Option ValueType
value_type_of d = layer_value_type (out-DataType d)

-- what the table of common types reads of a value type: of an integer type its sign and its width in bits
pub data Family : Type 0 where
  Nulls : Family
  Booleans : Family
  Strings : Family
  Unsigned : ℕ → Family
  Signed : ℕ → Family

abbrev pub family_of : ValueType → Family
family_of value.Null = Nulls
family_of value.Boolean = Booleans
family_of value.String = Strings
family_of value.UInt8 = Unsigned 8
family_of value.UInt16 = Unsigned 16
family_of value.UInt32 = Unsigned 32
family_of value.UInt64 = Unsigned 64
family_of value.Int8 = Signed 8
family_of value.Int16 = Signed 16
family_of value.Int32 = Signed 32
family_of value.Int64 = Signed 64

-- the unsigned type of a width
abbrev pub unsigned_type : ℕ → DataType
unsigned_type bits = if bits == 8 then dtype.UInt8 else (if bits == 16 then dtype.UInt16 else (if bits == 32 then dtype.UInt32 else dtype.UInt64))

-- the signed type of a width, past 64 bits Float64
abbrev pub signed_type : ℕ → DataType
signed_type bits = if bits == 8 then dtype.Int8 else (if bits == 16 then dtype.Int16 else (if bits == 32 then dtype.Int32 else (if bits == 64 then dtype.Int64 else dtype.Float64)))

abbrev pub type_of_family : Family → DataType
type_of_family Nulls = dtype.Null
type_of_family Booleans = dtype.Boolean
type_of_family Strings = dtype.String
type_of_family (Unsigned bits) = unsigned_type bits
type_of_family (Signed bits) = signed_type bits

-- Of two integer types of one sign it is the wider. A signed type holds an unsigned one that is half as wide.
abbrev pub common_family : Family → Family → Option Family
common_family Nulls b = Some b
common_family a Nulls = Some a
common_family Booleans Strings = None
common_family Booleans b = Some b
common_family Strings Strings = Some Strings
common_family Strings b = None
common_family a Booleans = Some a
common_family (Unsigned m) (Unsigned n) = Some (Unsigned (max m n))
common_family (Unsigned m) (Signed n) = Some (Signed (max (2 * m) n))
common_family (Signed m) (Unsigned n) = Some (Signed (max m (2 * n)))
common_family (Signed m) (Signed n) = Some (Signed (max m n))
common_family a Strings = None

-- the common type of two value types, where they have one
unfoldable pub common_dtype : ValueType → ValueType → Option DataType
common_dtype a b = option_map type_of_family (common_family (family_of a) (family_of b))

-- the common type of two value types, where it is a value type
unfoldable pub common : ValueType → ValueType → Option ValueType
common a b = option_and_then value_type_of (common_dtype a b)

-- the type holds the integer
unfoldable pub holds : ValueType → ℤ → Bool
holds value.UInt8 z = int_le (pos 0) z && int_lt z (pos (2 ^ 8))
holds value.UInt16 z = int_le (pos 0) z && int_lt z (pos (2 ^ 16))
holds value.UInt32 z = int_le (pos 0) z && int_lt z (pos (2 ^ 32))
holds value.UInt64 z = int_le (pos 0) z && int_lt z (pos (2 ^ 64))
holds value.Int8 z = int_le (negsuc (2 ^ 7 - 1)) z && int_lt z (pos (2 ^ 7))
holds value.Int16 z = int_le (negsuc (2 ^ 15 - 1)) z && int_lt z (pos (2 ^ 15))
holds value.Int32 z = int_le (negsuc (2 ^ 31 - 1)) z && int_lt z (pos (2 ^ 31))
holds value.Int64 z = int_le (negsuc (2 ^ 63 - 1)) z && int_lt z (pos (2 ^ 63))
holds _ z = false

-- the default type of an integer literal: the first of these types that holds it
unfoldable pub default_type : ℤ → Option ValueType
default_type z =
    if holds value.Int32 z then Some value.Int32
    else (if holds value.Int64 z then Some value.Int64
    else (if holds value.UInt64 z then Some value.UInt64 else None))
