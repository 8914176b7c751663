-- Quotients and remainders that are 0 where the divisor is 0.
use Rattle.std.specs.Prelude.{Bool, ℤ, pos, int_lt, cond}
use Rattle.px_semantics.specs.Arithmetic.{floor_quotient, floor_remainder, is_zero}
use Rattle.px_types.specs.Integers.{into}
use Rattle.px_types.specs.declared.value_type.ValueType.{ValueType}

-- the floor quotient, taken into the type
abbrev pub quotient_of : ValueType → ℤ → ℤ → ℤ
quotient_of value_type a b = cond (is_zero b) (pos 0) (into value_type (floor_quotient a b))

-- what it leaves
abbrev pub remainder_of : ℤ → ℤ → ℤ
remainder_of a b = cond (is_zero b) (pos 0) (floor_remainder a b)

-- one of the two is negative and the other positive
abbrev pub has_opposite_sign : ℤ → ℤ → Bool
has_opposite_sign a b = cond (int_lt b (pos 0)) (int_lt (pos 0) a) (int_lt a (pos 0))
