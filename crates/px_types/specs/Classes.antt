-- Types by what the rules about types read of them.
use Rattle.std.specs.Prelude.{Bool, true, false, ◌||◌}
use Rattle.px_types.specs.declared.dtype.DataType.{DataType, DataType-F, out-DataType}
use Rattle.px_types.specs.declared.dtype.Field.{Field}
use Rattle.px_types.specs.declared.type_parts.UnknownKind.{UnknownKind}
use Rattle.px_types.specs.declared.type_parts.UnknownKind.TheVariants as unknown
use Rattle.px_types.specs.declared.class.Class.{Class}
use Rattle.px_types.specs.declared.class.Class.TheVariants as class
use Rattle.px_types.specs.declared.value_type.ValueType.{ValueType}
use Rattle.px_types.specs.declared.value_type.ValueType.TheVariants as value

-- an unknown type
abbrev pub unknown_class : UnknownKind → Class
unknown_class unknown.Any = class.Anything
unknown_class (unknown.Int z) = class.Integer z
unknown_class unknown.Float = class.Float
unknown_class unknown.Str = class.Str

abbrev pub layer_class : DataType-F DataType Field → Class
layer_class DataType-F.Null = class.Value value.Null
layer_class DataType-F.Boolean = class.Value value.Boolean
layer_class DataType-F.String = class.Value value.String
layer_class DataType-F.UInt8 = class.Value value.UInt8
layer_class DataType-F.UInt16 = class.Value value.UInt16
layer_class DataType-F.UInt32 = class.Value value.UInt32
layer_class DataType-F.UInt64 = class.Value value.UInt64
layer_class DataType-F.Int8 = class.Value value.Int8
layer_class DataType-F.Int16 = class.Value value.Int16
layer_class DataType-F.Int32 = class.Value value.Int32
layer_class DataType-F.Int64 = class.Value value.Int64
layer_class DataType-F.Int128 = class.Int128
layer_class DataType-F.Float32 = class.Float32
layer_class DataType-F.Float64 = class.Float64
layer_class (DataType-F.Unknown value_type) = unknown_class value_type
layer_class _ = class.Other

-- what the rules read of a type
abbrev pub class_of : DataType → Class
class_of d = layer_class (out-DataType d)

-- one of the eight integer types
abbrev pub is_integer_value : ValueType → Bool
is_integer_value value.Null = false
is_integer_value value.Boolean = false
is_integer_value value.String = false
is_integer_value _ = true

-- `Boolean` or an integer type
abbrev pub is_boolean_or_integer : ValueType → Bool
is_boolean_or_integer value.Boolean = true
is_boolean_or_integer v = is_integer_value v

-- `Boolean` or an integer type of at most 16 bits, of which `Float32` has each value
abbrev pub is_narrow : ValueType → Bool
is_narrow value.Boolean = true
is_narrow value.UInt8 = true
is_narrow value.UInt16 = true
is_narrow value.Int8 = true
is_narrow value.Int16 = true
is_narrow _ = false

-- one of the four unsigned integer types
abbrev pub is_unsigned_value : ValueType → Bool
is_unsigned_value value.UInt8 = true
is_unsigned_value value.UInt16 = true
is_unsigned_value value.UInt32 = true
is_unsigned_value value.UInt64 = true
is_unsigned_value _ = false

abbrev pub class_is_integer : Class → Bool
class_is_integer (class.Value v) = is_integer_value v
class_is_integer class.Int128 = true
class_is_integer _ = false

-- an integer type, `Int128` among them
abbrev pub is_integer : DataType → Bool
is_integer d = class_is_integer (class_of d)

abbrev pub class_is_unsigned : Class → Bool
class_is_unsigned (class.Value v) = is_unsigned_value v
class_is_unsigned _ = false

abbrev pub is_unsigned_integer : DataType → Bool
is_unsigned_integer d = class_is_unsigned (class_of d)

abbrev pub class_is_float : Class → Bool
class_is_float class.Float32 = true
class_is_float class.Float64 = true
class_is_float _ = false

abbrev pub is_float : DataType → Bool
is_float d = class_is_float (class_of d)

-- an integer or a float type
abbrev pub is_primitive_numeric : DataType → Bool
is_primitive_numeric d = is_integer d || is_float d
