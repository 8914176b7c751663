-- Arithmetic on rows of integers.
use Rattle.std.specs.Prelude.{Bool, false, suc, ◌==◌, ℤ, pos, negsuc, neg_ℤ, ◌+ℤ◌, ◌-ℤ◌, ◌*ℤ◌, ◌≤ℤ◌, ◌<ℤ◌, ◌⊎◌, Option, Some, None, map, cond}
use Rattle.std.specs.Int.{int_div_euclid}
use Rattle.px_types.specs.Integers.{into}
use Rattle.px_types.specs.declared.operator.Operator.{Operator}
use Rattle.px_types.specs.declared.operator.Operator.TheVariants as op
use Rattle.px_types.specs.declared.value_type.ValueType.{ValueType}
use Rattle.px_semantics.specs.Rows.{IntegerValue, Row, TypedRows, lift, on_integer, broadcast_rows}

-- the floor quotient of a by b
abbrev pub floor_quotient : ℤ → ℤ → ℤ
floor_quotient a (pos b) = int_div_euclid a (pos b)
floor_quotient a (negsuc b) = int_div_euclid (neg_ℤ a) (pos (suc b))

-- the remainder of floor division, which has the sign of b
abbrev pub floor_remainder : ℤ → ℤ → ℤ
floor_remainder a b = a -ℤ (b *ℤ floor_quotient a b)

-- r is 0, or has the sign of b and is smaller than b in absolute value
abbrev pub IsRemainderBy : ℤ → ℤ → Type 0
IsRemainderBy b r = ((pos 0 ≤ℤ r) × (r <ℤ b)) ⊎ ((b <ℤ r) × (r ≤ℤ pos 0))

-- q is the floor quotient of a by b, by its remainder
abbrev pub IsFloorQuotient : ℤ → ℤ → ℤ → Type 0
IsFloorQuotient a b q = IsRemainderBy b (a -ℤ (b *ℤ q))

abbrev pub is_zero : ℤ → Bool
is_zero (pos n) = n == 0
is_zero (negsuc n) = false

-- a row of a number, null where it is 0
abbrev pub nonzero_row : Row → Row
nonzero_row (Some (IntegerValue z)) = cond (is_zero z) None (Some (IntegerValue z))
nonzero_row _ = None

-- f of two rows of numbers, null where a row is null or the second is 0
abbrev pub lift_nonzero : (ℤ → ℤ → ℤ) → Row → Row → Row
lift_nonzero f x y = lift f x (nonzero_row y)

-- an operator of arithmetic on two rows of an integer type
abbrev pub arith_row : Operator → ValueType → Row → Row → Row
arith_row op.Plus value_type x y = lift (λ a b. into value_type (a +ℤ b)) x y
arith_row op.Minus value_type x y = lift (λ a b. into value_type (a -ℤ b)) x y
arith_row op.Multiply value_type x y = lift (λ a b. into value_type (a *ℤ b)) x y
arith_row op.Divide value_type x y = lift_nonzero (λ a b. into value_type (floor_quotient a b)) x y
arith_row op.FloorDivide value_type x y = lift_nonzero (λ a b. into value_type (floor_quotient a b)) x y
arith_row op.Modulus value_type x y = lift_nonzero floor_remainder x y
arith_row _ value_type x y = None

-- the operator is one of the six of arithmetic
abbrev pub IsArithmetic : Operator → Type 0
IsArithmetic op.Plus = Unit {0}
IsArithmetic op.Minus = Unit {0}
IsArithmetic op.Multiply = Unit {0}
IsArithmetic op.Divide = Unit {0}
IsArithmetic op.FloorDivide = Unit {0}
IsArithmetic op.Modulus = Unit {0}
IsArithmetic _ = ⊥

-- an operator of arithmetic on two columns of one integer type
unfoldable pub arith_rows : Operator → TypedRows → TypedRows → Option TypedRows
arith_rows o a b = broadcast_rows a.value_type (arith_row o a.value_type) a.rows b.rows

-- the negated numbers, taken into the type
abbrev pub negate_rows : TypedRows → TypedRows
negate_rows a = record { value_type = a.value_type; rows = map (on_integer (λ z. into a.value_type (neg_ℤ z))) a.rows }
