-- Columns: fewer than 2^32 rows, each of them null or a value of the type.
use Rattle.std.specs.Prelude.{◌<◌, ◌^◌, Bool, true, ◌&&◌, nat_lt, length, List, Some, None}
use Rattle.std.specs.List.{list_all}
use Rattle.std.specs.Simd.Lanes.{Each1}
use Rattle.px_types.specs.declared.value_type.ValueType.{ValueType}
use Rattle.px_semantics.specs.Rows.{BooleanValue, StringValue, IntegerValue, Row, TypedRows, Contents, IsRowOf, is_boolean, is_string}
use Rattle.px_types.specs.ValueTypes.{holds}

pub record IsColumn (values : TypedRows) : Type 0 where
  pub below_limit : length values.rows < 2 ^ 32
  pub typed : Each1 (IsRowOf values.value_type) values.rows

-- whether the row is null or a value of the type
abbrev pub is_row_of : ValueType → Row → Bool
is_row_of k None = true
is_row_of k (Some (BooleanValue t)) = is_boolean k
is_row_of k (Some (StringValue bytes)) = is_string k
is_row_of k (Some (IntegerValue z)) = holds k z

-- the test of `IsColumn`
unfoldable pub is_column : TypedRows → Bool
is_column values = nat_lt (length values.rows) (2 ^ 32) && list_all (is_row_of values.value_type) values.rows

abbrev pub are_columns : List Contents → Bool
are_columns columns = list_all (λ (c : Contents). is_column c.values) columns
