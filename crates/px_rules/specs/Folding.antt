-- What an operator makes of two literals, and a minus of one.
use Rattle.std.specs.Prelude.{ℤ, pos, neg_ℤ, ◌+ℤ◌, ◌-ℤ◌, ◌*ℤ◌, Bool, not, ◌&&◌, ◌||◌, cond, Option, Some, None, option_map}
use Rattle.std.specs.Ordering.{is_lt, is_eq, int_cmp, bool_cmp}
use Rattle.std.specs.declared.cmp.Ordering.{Ordering}
use Rattle.px_semantics.specs.Arithmetic.{is_zero}
use Rattle.px_types.specs.Integers.{into}
use Rattle.px_types.specs.declared.operator.Operator.{Operator}
use Rattle.px_types.specs.declared.operator.Operator.TheVariants as op
use Rattle.px_types.specs.declared.value_type.ValueType.{ValueType}
use Rattle.px_types.specs.declared.value_type.ValueType.TheVariants as value_type
use Rattle.px_integers.specs.Quotients.{quotient_of, remainder_of}
use Rattle.px_expr.specs.declared.literal.LiteralValue.{LiteralValue}
use Rattle.px_expr.specs.declared.literal.LiteralValue.TheVariants as lit
use Rattle.px_meaning.specs.Literals.{literal_of}

-- a comparison by the orders of its operands, there and back
abbrev pub compared : Operator → Ordering → Ordering → Option Bool
compared op.Eq there back = Some (is_eq there)
compared op.EqValidity there back = Some (is_eq there)
compared op.NotEq there back = Some (not (is_eq there))
compared op.NotEqValidity there back = Some (not (is_eq there))
compared op.Lt there back = Some (is_lt there)
compared op.LtEq there back = Some (not (is_lt back))
compared op.Gt there back = Some (is_lt back)
compared op.GtEq there back = Some (not (is_lt there))
compared _ there back = None

-- an operator of arithmetic on two numbers of a type; no division by 0
abbrev pub calculated : Operator → ValueType → ℤ → ℤ → Option ℤ
calculated op.Plus k x y = Some (into k (x +ℤ y))
calculated op.Minus k x y = Some (into k (x -ℤ y))
calculated op.Multiply k x y = Some (into k (x *ℤ y))
calculated op.Divide k x y = cond (is_zero y) None (Some (quotient_of k x y))
calculated op.FloorDivide k x y = cond (is_zero y) None (Some (quotient_of k x y))
calculated op.Modulus k x y = cond (is_zero y) None (Some (remainder_of x y))
calculated _ k x y = None

abbrev pub or_boolean : ValueType → Option ℤ → Option Bool → Option LiteralValue
or_boolean k (Some z) t = Some (literal_of k z)
or_boolean k None (Some t) = Some (lit.Boolean t)
or_boolean k None None = None

abbrev pub folded_numbers : Operator → ValueType → ℤ → ℤ → Option LiteralValue
folded_numbers o k x y = or_boolean k (calculated o k x y) (compared o (int_cmp x y) (int_cmp y x))

abbrev pub folded_booleans : Operator → Bool → Bool → Option Bool
folded_booleans op.And a b = Some (a && b)
folded_booleans op.LogicalAnd a b = Some (a && b)
folded_booleans op.Or a b = Some (a || b)
folded_booleans op.LogicalOr a b = Some (a || b)
folded_booleans op.Xor a b = Some (cond a (not b) b)
folded_booleans o a b = compared o (bool_cmp a b) (bool_cmp b a)

abbrev pub folded_literals : Operator → LiteralValue → LiteralValue → Option LiteralValue
folded_literals o (lit.Boolean a) (lit.Boolean b) = option_map lit.Boolean (folded_booleans o a b)
folded_literals o (lit.UInt8 x) (lit.UInt8 y) = folded_numbers o value_type.UInt8 (pos x) (pos y)
folded_literals o (lit.UInt16 x) (lit.UInt16 y) = folded_numbers o value_type.UInt16 (pos x) (pos y)
folded_literals o (lit.UInt32 x) (lit.UInt32 y) = folded_numbers o value_type.UInt32 (pos x) (pos y)
folded_literals o (lit.UInt64 x) (lit.UInt64 y) = folded_numbers o value_type.UInt64 (pos x) (pos y)
folded_literals o (lit.Int8 x) (lit.Int8 y) = folded_numbers o value_type.Int8 x y
folded_literals o (lit.Int16 x) (lit.Int16 y) = folded_numbers o value_type.Int16 x y
folded_literals o (lit.Int32 x) (lit.Int32 y) = folded_numbers o value_type.Int32 x y
folded_literals o (lit.Int64 x) (lit.Int64 y) = folded_numbers o value_type.Int64 x y
folded_literals o _ _ = None

-- the negation of a signed literal, taken into its type
abbrev pub negated_literal : LiteralValue → Option LiteralValue
negated_literal (lit.Int8 z) = Some (lit.Int8 (into value_type.Int8 (neg_ℤ z)))
negated_literal (lit.Int16 z) = Some (lit.Int16 (into value_type.Int16 (neg_ℤ z)))
negated_literal (lit.Int32 z) = Some (lit.Int32 (into value_type.Int32 (neg_ℤ z)))
negated_literal (lit.Int64 z) = Some (lit.Int64 (into value_type.Int64 (neg_ℤ z)))
negated_literal _ = None
