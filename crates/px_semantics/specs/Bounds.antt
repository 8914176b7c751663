-- Values beside bounds, missing values filled, and the absolute value and the sign of integers.
use Rattle.std.specs.Prelude.{ℤ, pos, negsuc, zero, suc, unsigned_abs, cond, List, [], ◌∷◌, map, Option, Some, None, option_map}
use Rattle.px_types.specs.Integers.{into}
use Rattle.px_types.specs.declared.operator.Operator.{Operator}
use Rattle.px_types.specs.declared.operator.Operator.TheVariants as op
use Rattle.px_types.specs.declared.type_parts.ClosedInterval.{ClosedInterval}
use Rattle.px_types.specs.declared.type_parts.ClosedInterval.TheVariants as closed
use Rattle.px_types.specs.declared.value_type.ValueType.TheVariants.{Boolean, Int64}
use Rattle.px_semantics.specs.Comparisons.{less, both_pass, compare_row}
use Rattle.px_semantics.specs.Fused.{elementwise_three}
use Rattle.px_semantics.specs.Logic.{and_row}
use Rattle.px_semantics.specs.Rows.{Row, TypedRows, on_integer, broadcast_rows}

-- the absolute values, taken into the type
abbrev pub abs_rows : TypedRows → TypedRows
abs_rows a = record { value_type = a.value_type; rows = map (on_integer (λ z. into a.value_type (pos (unsigned_abs z)))) a.rows }

-- 1 above 0, -1 below it, else 0
abbrev pub sign_of : ℤ → ℤ
sign_of (pos zero) = pos 0
sign_of (pos (suc n)) = pos 1
sign_of (negsuc n) = negsuc 0

abbrev pub sign_rows : TypedRows → TypedRows
sign_rows a = record { value_type = Int64; rows = map (on_integer sign_of) a.rows }

-- the first row, and where it is null the second
abbrev pub fill_row : Row → Row → Row
fill_row None y = y
fill_row (Some x) y = Some x

-- a column whose nulls are filled from another of its type
unfoldable pub fill_null_rows : TypedRows → TypedRows → Option TypedRows
fill_null_rows a fill = broadcast_rows a.value_type fill_row a.rows fill.rows

-- the row, or the bound where it is below it, or above it; a null bound does not bind
abbrev pub raised_row : Row → Row → Row
raised_row x low = cond (both_pass less x low) low x

abbrev pub lowered_row : Row → Row → Row
lowered_row x high = cond (both_pass less high x) high x

abbrev pub clip_row : Row → Row → Row → Row
clip_row x low high = lowered_row (raised_row x low) high

-- the rows of a bound; without one a single null, which does not bind
abbrev pub bound_rows : Option TypedRows → List Row
bound_rows None = None ∷ []
bound_rows (Some c) = c.rows

-- a column between bounds of its type
unfoldable pub clip_rows : TypedRows → Option TypedRows → Option TypedRows → Option TypedRows
clip_rows a low high =
    option_map (λ rows. record { value_type = a.value_type; rows = rows }) (elementwise_three clip_row a.rows (bound_rows low) (bound_rows high))

-- the comparison of a value with the lower end of an interval, and with its upper end
abbrev pub lower_test : ClosedInterval → Operator
lower_test closed.Both = op.GtEq
lower_test closed.Left = op.GtEq
lower_test _ = op.Gt

abbrev pub upper_test : ClosedInterval → Operator
upper_test closed.Both = op.LtEq
upper_test closed.Right = op.LtEq
upper_test _ = op.Lt

-- whether a value is inside an interval, by Kleene logic
abbrev pub is_between_row : ClosedInterval → Row → Row → Row → Row
is_between_row ends x low high = and_row (compare_row (lower_test ends) x low) (compare_row (upper_test ends) x high)

-- three columns of one type
unfoldable pub is_between_rows : ClosedInterval → TypedRows → TypedRows → TypedRows → Option TypedRows
is_between_rows ends a low high =
    option_map (λ rows. record { value_type = Boolean; rows = rows }) (elementwise_three (is_between_row ends) a.rows low.rows high.rows)
