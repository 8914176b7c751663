-- What is made of the rows of any number of columns, place by place.
use Rattle.std.specs.Prelude.{ℕ, Bool, false, not, ◌&&◌, List, map, length, get_or, Option, Some, None, is_some, is_none, option_map, if◌then◌else◌}
use Rattle.std.specs.List.{list_any, find, range_with_len}
use Rattle.std.specs.Option.{unwrap_or}
use Rattle.px_types.specs.Integers.{into}
use Rattle.px_types.specs.declared.value_type.ValueType.{ValueType}
use Rattle.px_types.specs.declared.value_type.ValueType.TheVariants.{Boolean, UInt32}
use Rattle.px_semantics.specs.Aggregates.{any_row, all_row, numbers_of, sum_of}
use Rattle.px_semantics.specs.Extremes.{min_row, max_row}
use Rattle.px_semantics.specs.Rows.{IntegerValue, Row, TypedRows, broadcast_lengths, stretch}

-- row i of each list
abbrev pub rows_across : List (List Row) → ℕ → List Row
rows_across lists i = map (λ rows. get_or rows i None) lists

-- f of the rows of any number of lists, place by place, each list broadcast to their common length; none where they do not broadcast
abbrev pub elementwise_all : (List Row → Row) → List (List Row) → Option (List Row)
elementwise_all f lists = option_map (λ n. map (λ i. f (rows_across (map (stretch n) lists) i)) (range_with_len 0 n)) (broadcast_lengths (map length lists))

-- the same of columns, with rows of a type
abbrev pub horizontal_rows : ValueType → (List Row → Row) → List TypedRows → Option TypedRows
horizontal_rows value_type f columns =
    option_map (λ rows. record { value_type = value_type; rows = rows }) (elementwise_all f (map (λ (c : TypedRows). c.rows) columns))

-- the first row that is not null, null where all are
abbrev pub coalesce_row : List Row → Row
coalesce_row rows = unwrap_or (find is_some rows) None

-- the sum of the values, taken into the type; null where a row is, unless nulls are ignored
abbrev pub sum_horizontal_row : ValueType → Bool → List Row → Row
sum_horizontal_row value_type ignore_nulls rows =
    if not ignore_nulls && list_any is_none rows then None else Some (IntegerValue (into value_type (sum_of (numbers_of rows))))

-- the type of a sum across columns
abbrev pub sum_horizontal_type : ValueType → ValueType
sum_horizontal_type Boolean = UInt32
sum_horizontal_type value_type = value_type

-- columns of one type, at least one: the first value, the least, the greatest and the sum of each place
unfoldable pub coalesce_rows : ValueType → List TypedRows → Option TypedRows
coalesce_rows value_type columns = horizontal_rows value_type coalesce_row columns

unfoldable pub min_horizontal_rows : ValueType → List TypedRows → Option TypedRows
min_horizontal_rows value_type columns = horizontal_rows value_type min_row columns

unfoldable pub max_horizontal_rows : ValueType → List TypedRows → Option TypedRows
max_horizontal_rows value_type columns = horizontal_rows value_type max_row columns

unfoldable pub sum_horizontal_rows : ValueType → Bool → List TypedRows → Option TypedRows
sum_horizontal_rows value_type ignore_nulls columns =
    horizontal_rows (sum_horizontal_type value_type) (sum_horizontal_row (sum_horizontal_type value_type) ignore_nulls) columns

-- columns of Booleans: whether all are true at each place, and whether one is, by Kleene logic
unfoldable pub all_horizontal_rows : List TypedRows → Option TypedRows
all_horizontal_rows columns = horizontal_rows Boolean (all_row false) columns

unfoldable pub any_horizontal_rows : List TypedRows → Option TypedRows
any_horizontal_rows columns = horizontal_rows Boolean (any_row false) columns
