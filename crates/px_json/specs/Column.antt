-- Columns as values: {"name": text, "dtype": type, "values": list}.
use Rattle.std.specs.Prelude.{ℕ, ◌^◌, nat_lt, List, codes, map, Option, Some, None, option_map}
use Rattle.serde_json.specs.Data.{Data, null, boolean, number, string, array, object, Items, no_members, member}
use Rattle.serde_json.specs.Events.{items_len}
use Rattle.serde_json.specs.Find.{as_bool, as_str, as_array, of_integer}
use Rattle.serde_json.specs.View.{items_of}
use Rattle.px_semantics.specs.Rows.{Datum, Row, BooleanValue, StringValue, IntegerValue, TypedRows, Contents}
use Rattle.px_types.specs.declared.value_type.ValueType.{ValueType}
use Rattle.px_types.specs.declared.value_type.ValueType.TheVariants as value_type
use Rattle.px_json.specs.JsonAccess.{◌>>=◌, only_if, three_fields, number_in, every}
use Rattle.px_json.specs.Names.{value_type_name, value_type_named}

-- an integer of the type, a Boolean, a text
abbrev pub integer_in : ValueType → Data → Option Datum
integer_in value_type d = option_map IntegerValue (number_in value_type d)

abbrev pub boolean_in : Data → Option Datum
boolean_in d = option_map BooleanValue (as_bool d)

abbrev pub string_in : Data → Option Datum
string_in d = option_map StringValue (as_str d)

-- a value of the type, which is not null
abbrev pub value_in : ValueType → Data → Option Datum
value_in value_type.Null = λ d. None
value_in value_type.Boolean = boolean_in
value_in value_type.String = string_in
value_in value_type.UInt8 = integer_in value_type.UInt8
value_in value_type.UInt16 = integer_in value_type.UInt16
value_in value_type.UInt32 = integer_in value_type.UInt32
value_in value_type.UInt64 = integer_in value_type.UInt64
value_in value_type.Int8 = integer_in value_type.Int8
value_in value_type.Int16 = integer_in value_type.Int16
value_in value_type.Int32 = integer_in value_type.Int32
value_in value_type.Int64 = integer_in value_type.Int64

-- a null, or what f reads
abbrev pub cell : (Data → Option Datum) → Data → Option Row
cell f null = Some None
cell f d = option_map Some (f d)

-- nulls and values of the type, as the rows of a column
abbrev pub rows_in : ValueType → Items → Option TypedRows
rows_in value_type items = option_map (λ rows. record { value_type = value_type; rows = rows }) (every (cell (value_in value_type)) items)

-- the same of fewer than 2 ^ 32 values
abbrev pub values_in : ValueType → Items → Option TypedRows
values_in value_type items = only_if (nat_lt (items_len items) (2 ^ 32)) (rows_in value_type items)

-- the type, the name and the list of values
abbrev pub column_parts : Data → Option (ValueType × List ℕ × Items)
column_parts d = do
  p ← three_fields (codes "dtype") (codes "name") (codes "values") d
  type ← as_str p.0
  value_type ← value_type_named type
  name ← as_str p.1
  items ← as_array p.2
  Some (value_type, name, items)

-- the column that a value stands for
abbrev pub column_in : Data → Option Contents
column_in d = do
  p ← column_parts d
  values ← values_in p.0 p.2
  Some (record { name = p.1; values = values })

-- the value of a row
abbrev pub row_data : Row → Data
row_data None = null
row_data (Some (BooleanValue t)) = boolean t
row_data (Some (StringValue text)) = string text
row_data (Some (IntegerValue z)) = number (of_integer z)

-- {"dtype": type, "name": text, "values": list}
abbrev pub named_data : ValueType → List ℕ → List Data → Data
named_data value_type name values = object (member (codes "dtype") (string (value_type_name value_type)) (member (codes "name") (string name)
    (member (codes "values") (array (items_of values)) no_members)))

-- the value that a column is written as
abbrev pub column_data : Contents → Data
column_data c = named_data c.values.value_type c.name (map row_data c.values.rows)
