-- The names of the types of columns.
use Rattle.std.specs.Prelude.{ℕ, List, codes, bytes_eq, if◌then◌else◌, Option, Some, None}
use Rattle.px_types.specs.declared.value_type.ValueType.{ValueType}
use Rattle.px_types.specs.declared.value_type.ValueType.TheVariants as value_type

-- the name of a type of columns
unfoldable pub value_type_name : ValueType → List ℕ
value_type_name value_type.Null = codes "Null"
value_type_name value_type.Boolean = codes "Boolean"
value_type_name value_type.String = codes "String"
value_type_name value_type.UInt8 = codes "UInt8"
value_type_name value_type.UInt16 = codes "UInt16"
value_type_name value_type.UInt32 = codes "UInt32"
value_type_name value_type.UInt64 = codes "UInt64"
value_type_name value_type.Int8 = codes "Int8"
value_type_name value_type.Int16 = codes "Int16"
value_type_name value_type.Int32 = codes "Int32"
value_type_name value_type.Int64 = codes "Int64"

-- the type of columns that has the name
unfoldable pub value_type_named : List ℕ → Option ValueType
value_type_named name =
    if bytes_eq name (codes "Null") then Some value_type.Null
    else (if bytes_eq name (codes "Boolean") then Some value_type.Boolean
    else (if bytes_eq name (codes "String") then Some value_type.String
    else (if bytes_eq name (codes "UInt8") then Some value_type.UInt8
    else (if bytes_eq name (codes "UInt16") then Some value_type.UInt16
    else (if bytes_eq name (codes "UInt32") then Some value_type.UInt32
    else (if bytes_eq name (codes "UInt64") then Some value_type.UInt64
    else (if bytes_eq name (codes "Int8") then Some value_type.Int8
    else (if bytes_eq name (codes "Int16") then Some value_type.Int16
    else (if bytes_eq name (codes "Int32") then Some value_type.Int32
    else (if bytes_eq name (codes "Int64") then Some value_type.Int64
    else None))))))))))
