-- Columns without some of their rows: the rows at which a mask is true, the rows that are not null.
use Rattle.std.specs.Prelude.{List, length, map, Option, is_some, option_map}
use Rattle.std.specs.List.{filter, items_where_true}
use Rattle.px_semantics.specs.Logic.{is_true}
use Rattle.px_semantics.specs.Rows.{Row, TypedRows, broadcast_length, stretch}

-- other rows of a column's type
abbrev pub with_rows : TypedRows → List Row → TypedRows
with_rows a rows = record { value_type = a.value_type; rows = rows }

-- the rows that are not null, in order
abbrev pub drop_null_rows : TypedRows → TypedRows
drop_null_rows a = with_rows a (filter is_some a.rows)

-- the rows at which the mask is true, in order
abbrev pub rows_where_true : List Row → List Row → List Row
rows_where_true mask rows = items_where_true (map is_true mask) rows

-- the same of a list and a mask, each broadcast to their common length; none where they do not broadcast
abbrev pub masked_rows : List Row → List Row → Option (List Row)
masked_rows mask rows = option_map (λ n. rows_where_true (stretch n mask) (stretch n rows)) (broadcast_length (length rows) (length mask))

-- a column by a mask
unfoldable pub filter_rows : TypedRows → TypedRows → Option TypedRows
filter_rows a mask = option_map (with_rows a) (masked_rows mask.rows a.rows)
