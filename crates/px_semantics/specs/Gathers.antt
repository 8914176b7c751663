-- Rows of a column by their indices.
use Rattle.std.specs.Prelude.{ℕ, ◌+◌, ◌-◌, ◌==◌, nat_lt, ℤ, pos, negsuc, Bool, true, not, ◌&&◌, cond, List, length, map, get_or, Option, Some, None, is_some, option_map, option_and_then, Result, Err}
use Rattle.std.specs.Option.{ok_or}
use Rattle.std.specs.List.{list_all}
use Rattle.px_base.specs.declared.error.PlanError.{PlanError}
use Rattle.px_base.specs.declared.error.PlanError.TheVariants.{ShapeMismatch, OutOfBounds}
use Rattle.px_semantics.specs.Filters.{with_rows}
use Rattle.px_semantics.specs.Rows.{Row, IntegerValue, TypedRows}

-- the position among n rows that an index stands for: -1 is the last row, and so on from the end; none where it is outside
abbrev pub position_of : ℕ → ℤ → Option ℕ
position_of n (pos i) = cond (nat_lt i n) (Some i) None
position_of n (negsuc i) = cond (nat_lt i n) (Some (n - (i + 1))) None

-- the index is null, or stands for one of n rows
abbrev pub is_inside : ℕ → Row → Bool
is_inside n (Some (IntegerValue index)) = is_some (position_of n index)
is_inside n _ = true

-- the row that an index stands for, null where the index is null
abbrev pub row_at : List Row → Row → Row
row_at rows (Some (IntegerValue index)) = option_and_then (λ i. get_or rows i None) (position_of (length rows) index)
row_at rows _ = None

-- a row for each index; none where an index is outside
abbrev pub rows_at : List Row → List Row → Option (List Row)
rows_at indices rows = cond (list_all (is_inside (length rows)) indices) (Some (map (row_at rows) indices)) None

-- a column by indices; a scalar is wanted where there is to be one index
unfoldable pub gather_rows : TypedRows → TypedRows → Bool → Result TypedRows PlanError
gather_rows a indices returns_scalar =
    cond (returns_scalar && not (length indices.rows == 1))
    (Err ShapeMismatch)
    (ok_or (option_map (with_rows a) (rows_at indices.rows a.rows)) OutOfBounds)
