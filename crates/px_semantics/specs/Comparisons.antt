-- Comparison of rows of one type.
use Rattle.std.specs.Prelude.{Bool, true, false, not, ◌&&◌, Option, Some, None, is_some}
use Rattle.std.specs.Ordering.{is_lt, is_eq, nat_cmp, int_cmp, bool_cmp}
use Rattle.std.specs.declared.cmp.Ordering.{Ordering}
use Rattle.std.specs.declared.cmp.Ordering.TheVariants.{Equal}
use Rattle.std.specs.Cmp.Lexicographic.{slice_cmp}
use Rattle.px_types.specs.declared.operator.Operator.{Operator}
use Rattle.px_types.specs.declared.operator.Operator.TheVariants as op
use Rattle.px_types.specs.declared.value_type.ValueType.TheVariants.{Boolean}
use Rattle.px_semantics.specs.Rows.{Datum, BooleanValue, StringValue, IntegerValue, Row, TypedRows, boolean_entry, broadcast_rows}

-- false below true, strings by their bytes, integers as numbers
abbrev pub order : Datum → Datum → Ordering
order (BooleanValue x) (BooleanValue y) = bool_cmp x y
order (StringValue x) (StringValue y) = slice_cmp nat_cmp x y
order (IntegerValue x) (IntegerValue y) = int_cmp x y
order _ _ = Equal

abbrev pub less : Datum → Datum → Bool
less x y = is_lt (order x y)

abbrev pub equal : Datum → Datum → Bool
equal x y = is_eq (order x y)

-- a test of two values, false where one is null
abbrev pub both_pass : (Datum → Datum → Bool) → Row → Row → Bool
both_pass f (Some x) (Some y) = f x y
both_pass f _ _ = false

-- a test of two values, null where one is null
abbrev pub test_row : (Datum → Datum → Bool) → Row → Row → Row
test_row f x y = boolean_entry (both_pass f x y) (is_some x && is_some y)

-- both are null, or both are equal values
abbrev pub match_rows : Row → Row → Bool
match_rows None None = true
match_rows x y = both_pass equal x y

-- a comparison of two rows; the two that see missing values are never null
abbrev pub compare_row : Operator → Row → Row → Row
compare_row op.Eq x y = test_row equal x y
compare_row op.NotEq x y = test_row (λ a b. not (equal a b)) x y
compare_row op.Lt x y = test_row less x y
compare_row op.LtEq x y = test_row (λ a b. not (less b a)) x y
compare_row op.Gt x y = test_row (λ a b. less b a) x y
compare_row op.GtEq x y = test_row (λ a b. not (less a b)) x y
compare_row op.EqValidity x y = Some (BooleanValue (match_rows x y))
compare_row op.NotEqValidity x y = Some (BooleanValue (not (match_rows x y)))
compare_row _ x y = None

-- the operator is one of the eight comparisons
abbrev pub IsComparison : Operator → Type 0
IsComparison op.Eq = Unit {0}
IsComparison op.NotEq = Unit {0}
IsComparison op.Lt = Unit {0}
IsComparison op.LtEq = Unit {0}
IsComparison op.Gt = Unit {0}
IsComparison op.GtEq = Unit {0}
IsComparison op.EqValidity = Unit {0}
IsComparison op.NotEqValidity = Unit {0}
IsComparison _ = ⊥

-- a comparison of two columns of one type
unfoldable pub compare_rows : Operator → TypedRows → TypedRows → Option TypedRows
compare_rows o a b = broadcast_rows Boolean (compare_row o) a.rows b.rows
