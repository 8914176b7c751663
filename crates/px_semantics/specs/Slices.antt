-- Columns in reverse, one after the other, and a range of a column.
use Rattle.std.specs.Prelude.{ℕ, ◌+◌, ◌^◌, ◌==◌, min, nat_lt, ℤ, pos, negsuc, ◌+ℤ◌, int_lt, ◌&&◌, cond, List, ◌++◌, length, get_or, reverse, slice_range, Option, Some, None, option_map, Result, Err}
use Rattle.std.specs.Option.{ok_or}
use Rattle.px_base.specs.declared.error.PlanError.{PlanError}
use Rattle.px_base.specs.declared.error.PlanError.TheVariants.{ShapeMismatch, OutOfBounds}
use Rattle.px_semantics.specs.Filters.{with_rows}
use Rattle.px_semantics.specs.Rows.{Row, IntegerValue, TypedRows}

-- the rows from the last to the first
abbrev pub reverse_rows : TypedRows → TypedRows
reverse_rows a = with_rows a (reverse a.rows)

-- the rows of the first column and then of the second; none from 2^32 rows on
unfoldable pub append_rows : TypedRows → TypedRows → Option TypedRows
append_rows a b = cond (nat_lt (length a.rows + length b.rows) (2 ^ 32)) (Some (with_rows a (a.rows ++ b.rows))) None

-- where a range of n rows starts, which may be outside: a negative offset counts from the end
abbrev pub range_start : ℕ → ℤ → ℤ
range_start n offset = cond (int_lt offset (pos 0)) (offset +ℤ pos n) offset

-- the position nearest to a number, of 0 to n
abbrev pub clamp : ℕ → ℤ → ℕ
clamp n (pos i) = min i n
clamp n (negsuc _) = 0

-- where a range of n rows starts and ends, by its offset and its length; none where one of them is null, or the length is negative
abbrev pub range_of : ℕ → Row → Row → Option (ℕ × ℕ)
range_of n (Some (IntegerValue offset)) (Some (IntegerValue count)) =
    cond (int_lt count (pos 0)) None (Some (clamp n (range_start n offset), clamp n (range_start n offset +ℤ count)))
range_of n _ _ = None

-- the rows of a range
abbrev pub rows_between : Row → Row → List Row → Option (List Row)
rows_between offset count rows = option_map (λ (r : ℕ × ℕ). slice_range rows r.0 r.1) (range_of (length rows) offset count)

-- a range of a column, by an offset and a length of one row each
unfoldable pub slice_rows : TypedRows → TypedRows → TypedRows → Result TypedRows PlanError
slice_rows a offset count =
    cond (length offset.rows == 1 && length count.rows == 1)
    (ok_or (option_map (with_rows a) (rows_between (get_or offset.rows 0 None) (get_or count.rows 0 None) a.rows)) OutOfBounds)
    (Err ShapeMismatch)
