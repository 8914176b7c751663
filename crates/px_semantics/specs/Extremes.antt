-- The least and the greatest value of all rows of a column, and their first positions, as one row.
use Rattle.std.specs.Prelude.{Bool, not, ◌&&◌, ℕ, pos, List, Option, None, is_some, option_map}
use Rattle.std.specs.Option.{unwrap_or}
use Rattle.std.specs.List.{list_any, find, position}
use Rattle.px_types.specs.declared.value_type.ValueType.TheVariants.{UInt32}
use Rattle.px_semantics.specs.Aggregates.{one_row}
use Rattle.px_semantics.specs.Comparisons.{less, both_pass}
use Rattle.px_semantics.specs.Rows.{IntegerValue, Row, TypedRows}

-- the row is a value, and no value of the rows is less
abbrev pub is_least : List Row → Row → Bool
is_least rows row = is_some row && not (list_any (λ other. both_pass less other row) rows)

-- the row is a value, and no value of the rows is greater
abbrev pub is_greatest : List Row → Row → Bool
is_greatest rows row = is_some row && not (list_any (λ other. both_pass less row other) rows)

-- the least value and the greatest; null where there is none
abbrev pub min_row : List Row → Row
min_row rows = unwrap_or (find (is_least rows) rows) None

abbrev pub max_row : List Row → Row
max_row rows = unwrap_or (find (is_greatest rows) rows) None

-- the row of a number that may be missing
abbrev pub position_row : Option ℕ → Row
position_row place = option_map (λ i. IntegerValue (pos i)) place

-- the first position of the least value, and of the greatest
abbrev pub arg_min_row : List Row → Row
arg_min_row rows = position_row (position (is_least rows) rows)

abbrev pub arg_max_row : List Row → Row
arg_max_row rows = position_row (position (is_greatest rows) rows)

-- the same of columns
abbrev pub min_of : TypedRows → TypedRows
min_of a = one_row a.value_type (min_row a.rows)

abbrev pub max_of : TypedRows → TypedRows
max_of a = one_row a.value_type (max_row a.rows)

abbrev pub arg_min_of : TypedRows → TypedRows
arg_min_of a = one_row UInt32 (arg_min_row a.rows)

abbrev pub arg_max_of : TypedRows → TypedRows
arg_max_of a = one_row UInt32 (arg_max_row a.rows)
