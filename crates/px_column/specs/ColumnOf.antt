-- The buffers of columns as contracts see them, and what columns are made of.
use Rattle.std.specs.Prelude.{ℤ, List, Option, Some, None, replicate}
use Rattle.px_types.specs.Integers.{IsInteger}
use Rattle.px_semantics.specs.Rows.{Row, AllInRange}
use Rattle.px_types.specs.declared.value_type.ValueType.{ValueType}
use Rattle.px_types.specs.declared.value_type.ValueType.TheVariants as value_type
use Rattle.px_column.specs.declared.buffer.Buffer.{Buffer}
use Rattle.px_column.specs.declared.buffer.Buffer.TheVariants.{Null, Boolean, String, Int8, Int16, Int32, Int64, UInt8, UInt16, UInt32, UInt64}

-- the type of the rows
abbrev pub type_of : Buffer → ValueType
type_of (Null len) = value_type.Null
type_of (Boolean rows) = value_type.Boolean
type_of (String rows) = value_type.String
type_of (Int8 rows) = value_type.Int8
type_of (Int16 rows) = value_type.Int16
type_of (Int32 rows) = value_type.Int32
type_of (Int64 rows) = value_type.Int64
type_of (UInt8 rows) = value_type.UInt8
type_of (UInt16 rows) = value_type.UInt16
type_of (UInt32 rows) = value_type.UInt32
type_of (UInt64 rows) = value_type.UInt64

-- the rows, however they are kept
abbrev pub rows_of : Buffer → List Row
rows_of (Null len) = replicate len None
rows_of (Boolean rows) = rows
rows_of (String rows) = rows
rows_of (Int8 rows) = rows
rows_of (Int16 rows) = rows
rows_of (Int32 rows) = rows
rows_of (Int64 rows) = rows
rows_of (UInt8 rows) = rows
rows_of (UInt16 rows) = rows
rows_of (UInt32 rows) = rows
rows_of (UInt64 rows) = rows

-- the type is an integer type, and the values are all of it
abbrev pub HoldsIntegers : Option ValueType → List (Option ℤ) → Type 0
HoldsIntegers None values = ⊥
HoldsIntegers (Some value_type) values = IsInteger value_type × AllInRange value_type values
