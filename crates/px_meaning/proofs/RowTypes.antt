-- What each row function gives is null or a value of the type.
use Rattle.std.proofs.Common.{◌≡◌, ◌&&◌, ◌^◌, ℕ, ℤ, pos, ◌+ℤ◌, ◌-ℤ◌, ◌*ℤ◌, Some, None, Bool, true, false, cond, not, refl, subst, lit<}
use Rattle.std.specs.Prelude.{neg_ℤ, is_some}
use Rattle.std.specs.Int.{w8, w16, w32, w64}
use Rattle.std.specs.Int.Bits.{and_lt}
use Rattle.std.proofs.lemmas.Int.{SFits-int_wrap}
use Rattle.std.proofs.lemmas.Nat.{or_lt, xor_lt}
use Rattle.px_semantics.specs.Arithmetic.{arith_row, lift_nonzero, floor_quotient, floor_remainder, is_zero}
use Rattle.px_semantics.specs.Bitwise.{bitwise, complement}
use Rattle.px_semantics.specs.Casts.{in_type, as_integer, as_boolean, as_string, cast_value, cast_row}
use Rattle.px_semantics.specs.Comparisons.{compare_row, both_pass, less, equal}
use Rattle.px_semantics.specs.Fused.{fused, fused_row}
use Rattle.px_types.specs.Integers.{into, InRange}
use Rattle.px_semantics.specs.Logic.{logic_row, boolean_logic_row, decided_row, inverse_row, null_row, value_row, word_of}
use Rattle.px_types.proofs.Residues.{residue_within}
use Rattle.px_semantics.specs.Rows.{Datum, BooleanValue, StringValue, IntegerValue, Row, IsRowOf, boolean_entry, on_integer, lift}
use Rattle.px_types.specs.ValueTypes.{holds}
use Rattle.px_types.specs.declared.function.FusedOperator.{FusedOperator}
use Rattle.px_types.specs.declared.type_parts.CastOptions.{CastOptions}
use Rattle.px_types.specs.declared.type_parts.CastOptions.TheVariants.{Strict, NonStrict, Overflowing}
use Rattle.px_types.specs.declared.operator.Operator.{Operator}
use Rattle.px_types.specs.declared.operator.Operator.TheVariants as op
use Rattle.px_types.specs.declared.value_type.ValueType.{ValueType}
use Rattle.px_types.specs.declared.value_type.ValueType.TheVariants as value_type
use Rattle.px_types.specs.Classes.{is_integer_value}
use Rattle.px_semantics.proofs.CastLemmas.{holds_decides}
use Rattle.px_semantics.proofs.Quotients.{remainder_of_range}
use Rattle.px_semantics.proofs.Ranges.{KeepsBits, signed_bits, signed_complement, unsigned_bits, unsigned_complement}

-- an integer taken into an integer type is one of it
pub into_in : (k : ValueType) (z : ℤ) → is_integer_value k ≡ true → InRange k (into k z)
into_in value_type.Null z e = cc
into_in value_type.Boolean z e = cc
into_in value_type.String z e = cc
into_in value_type.UInt8 z e = residue_within z (2 ^ 8) (lit< tt)
into_in value_type.UInt16 z e = residue_within z (2 ^ 16) (lit< tt)
into_in value_type.UInt32 z e = residue_within z (2 ^ 32) (lit< tt)
into_in value_type.UInt64 z e = residue_within z (2 ^ 64) (lit< tt)
into_in value_type.Int8 z e = SFits-int_wrap w8 z
into_in value_type.Int16 z e = SFits-int_wrap w16 z
into_in value_type.Int32 z e = SFits-int_wrap w32 z
into_in value_type.Int64 z e = SFits-int_wrap w64 z

pub bitwise_in : (k : ValueType) (f : ℕ → ℕ → ℕ) → KeepsBits f → (x y : ℤ) → InRange k x → InRange k y → InRange k (bitwise f k x y)
bitwise_in value_type.Null f h x y p q = absurd p
bitwise_in value_type.Boolean f h x y p q = absurd p
bitwise_in value_type.String f h x y p q = absurd p
bitwise_in value_type.UInt8 f h x y p q = unsigned_bits 8 f h x y p q
bitwise_in value_type.UInt16 f h x y p q = unsigned_bits 16 f h x y p q
bitwise_in value_type.UInt32 f h x y p q = unsigned_bits 32 f h x y p q
bitwise_in value_type.UInt64 f h x y p q = unsigned_bits 64 f h x y p q
bitwise_in value_type.Int8 f h x y p q = signed_bits w8 f h x y p q
bitwise_in value_type.Int16 f h x y p q = signed_bits w16 f h x y p q
bitwise_in value_type.Int32 f h x y p q = signed_bits w32 f h x y p q
bitwise_in value_type.Int64 f h x y p q = signed_bits w64 f h x y p q

pub complement_in : (k : ValueType) (x : ℤ) → InRange k x → InRange k (complement k x)
complement_in value_type.Null x p = absurd p
complement_in value_type.Boolean x p = absurd p
complement_in value_type.String x p = absurd p
complement_in value_type.UInt8 x p = unsigned_complement w8 x p
complement_in value_type.UInt16 x p = unsigned_complement w16 x p
complement_in value_type.UInt32 x p = unsigned_complement w32 x p
complement_in value_type.UInt64 x p = unsigned_complement w64 x p
complement_in value_type.Int8 x p = signed_complement w8 x p
complement_in value_type.Int16 x p = signed_complement w16 x p
complement_in value_type.Int32 x p = signed_complement w32 x p
complement_in value_type.Int64 x p = signed_complement w64 x p

-- the word operators keep the number of bits
word_of-keeps : (o : Operator) → KeepsBits (word_of o)
word_of-keeps op.And = and_lt
word_of-keeps op.Or = or_lt
word_of-keeps _ = xor_lt

-- f on rows of integers of a type, where f keeps to the type
pub lift-typed : (k : ValueType) (f : ℤ → ℤ → ℤ) → ((x y : ℤ) → InRange k x → InRange k y → InRange k (f x y)) → (r s : Row) → IsRowOf k r → IsRowOf k s → IsRowOf k (lift f r s)
lift-typed k f h (Some (IntegerValue x)) (Some (IntegerValue y)) p q = h x y p q
lift-typed k f h _ _ p q = tt

lift_nonzero-typed :
    (k : ValueType) (f : ℤ → ℤ → ℤ) → ((x y : ℤ) → InRange k x → InRange k y → is_zero y ≡ false → InRange k (f x y)) → (r s : Row) → IsRowOf k r → IsRowOf k s →
    IsRowOf k (lift_nonzero f r s)
lift_nonzero-typed k f h (Some (IntegerValue x)) (Some (IntegerValue y)) p q = go (is_zero y) refl
  where
    go : (b : Bool) → is_zero y ≡ b → IsRowOf k (lift f (Some (IntegerValue x)) (cond b None (Some (IntegerValue y))))
    go true e = tt
    go false e = h x y p q e
lift_nonzero-typed k f h (Some (IntegerValue x)) (Some (BooleanValue t)) p q = tt
lift_nonzero-typed k f h (Some (IntegerValue x)) (Some (StringValue t)) p q = tt
lift_nonzero-typed k f h (Some (IntegerValue x)) None p q = tt
lift_nonzero-typed k f h (Some (BooleanValue t)) s p q = tt
lift_nonzero-typed k f h (Some (StringValue t)) s p q = tt
lift_nonzero-typed k f h None s p q = tt

rest_in : (k : ValueType) (x y : ℤ) → InRange k x → InRange k y → is_zero y ≡ false → InRange k (floor_remainder x y)
rest_in k x y p q e = subst (λ (b : Bool). InRange k (cond b (pos 0) (floor_remainder x y))) e (remainder_of_range k x y q)

-- an operator of arithmetic keeps to an integer type
pub arith_row-typed : (o : Operator) (k : ValueType) → is_integer_value k ≡ true → (r s : Row) → IsRowOf k r → IsRowOf k s → IsRowOf k (arith_row o k r s)
arith_row-typed op.Plus k i = lift-typed k (λ a b. into k (a +ℤ b)) (λ x y p q. into_in k (x +ℤ y) i)
arith_row-typed op.Minus k i = lift-typed k (λ a b. into k (a -ℤ b)) (λ x y p q. into_in k (x -ℤ y) i)
arith_row-typed op.Multiply k i = lift-typed k (λ a b. into k (a *ℤ b)) (λ x y p q. into_in k (x *ℤ y) i)
arith_row-typed op.Divide k i = lift_nonzero-typed k (λ a b. into k (floor_quotient a b)) (λ x y p q e. into_in k (floor_quotient x y) i)
arith_row-typed op.FloorDivide k i = lift_nonzero-typed k (λ a b. into k (floor_quotient a b)) (λ x y p q e. into_in k (floor_quotient x y) i)
arith_row-typed op.Modulus k i = lift_nonzero-typed k floor_remainder (rest_in k)
arith_row-typed _ k i = λ r s p q. tt

boolean_entry-typed : (t b : Bool) → IsRowOf value_type.Boolean (boolean_entry t b)
boolean_entry-typed t true = tt
boolean_entry-typed t false = tt

decided_row-typed : (s t : Bool) → IsRowOf value_type.Boolean (decided_row s t)
decided_row-typed true t = tt
decided_row-typed false true = tt
decided_row-typed false false = tt

-- a comparison gives Booleans
pub compare_row-typed : (o : Operator) (r s : Row) → IsRowOf value_type.Boolean (compare_row o r s)
compare_row-typed op.Eq r s = boolean_entry-typed (both_pass equal r s) (is_some r && is_some s)
compare_row-typed op.NotEq r s = boolean_entry-typed (both_pass (λ a b. not (equal a b)) r s) (is_some r && is_some s)
compare_row-typed op.Lt r s = boolean_entry-typed (both_pass less r s) (is_some r && is_some s)
compare_row-typed op.LtEq r s = boolean_entry-typed (both_pass (λ a b. not (less b a)) r s) (is_some r && is_some s)
compare_row-typed op.Gt r s = boolean_entry-typed (both_pass (λ a b. less b a) r s) (is_some r && is_some s)
compare_row-typed op.GtEq r s = boolean_entry-typed (both_pass (λ a b. not (less a b)) r s) (is_some r && is_some s)
compare_row-typed _ r s = tt

boolean_logic_row-typed : (o : Operator) (r s : Row) → IsRowOf value_type.Boolean (boolean_logic_row o r s)
boolean_logic_row-typed op.And r s = decided_row-typed _ _
boolean_logic_row-typed op.LogicalAnd r s = decided_row-typed _ _
boolean_logic_row-typed op.Or r s = decided_row-typed _ _
boolean_logic_row-typed op.LogicalOr r s = decided_row-typed _ _
boolean_logic_row-typed op.Xor r s = boolean_entry-typed _ _
boolean_logic_row-typed _ r s = tt

bits-typed : (o : Operator) (k : ValueType) (r s : Row) → IsRowOf k r → IsRowOf k s → IsRowOf k (lift (bitwise (word_of o) k) r s)
bits-typed o k = lift-typed k (bitwise (word_of o) k) (bitwise_in k (word_of o) (word_of-keeps o))

-- a logical operator keeps the type
pub logic_row-typed : (o : Operator) (k : ValueType) (r s : Row) → IsRowOf k r → IsRowOf k s → IsRowOf k (logic_row o k r s)
logic_row-typed o value_type.Boolean r s p q = boolean_logic_row-typed o r s
logic_row-typed o value_type.Null r s p q = bits-typed o value_type.Null r s p q
logic_row-typed o value_type.String r s p q = bits-typed o value_type.String r s p q
logic_row-typed o value_type.UInt8 r s p q = bits-typed o value_type.UInt8 r s p q
logic_row-typed o value_type.UInt16 r s p q = bits-typed o value_type.UInt16 r s p q
logic_row-typed o value_type.UInt32 r s p q = bits-typed o value_type.UInt32 r s p q
logic_row-typed o value_type.UInt64 r s p q = bits-typed o value_type.UInt64 r s p q
logic_row-typed o value_type.Int8 r s p q = bits-typed o value_type.Int8 r s p q
logic_row-typed o value_type.Int16 r s p q = bits-typed o value_type.Int16 r s p q
logic_row-typed o value_type.Int32 r s p q = bits-typed o value_type.Int32 r s p q
logic_row-typed o value_type.Int64 r s p q = bits-typed o value_type.Int64 r s p q

-- the negations of integers and their bits
on_integer-typed : (k : ValueType) (f : ℤ → ℤ) → ((x : ℤ) → InRange k x → InRange k (f x)) → (r : Row) → IsRowOf k r → IsRowOf k (on_integer f r)
on_integer-typed k f h (Some (IntegerValue x)) p = h x p
on_integer-typed k f h _ p = tt

pub negate_row-typed : (k : ValueType) → is_integer_value k ≡ true → (r : Row) → IsRowOf k r → IsRowOf k (on_integer (λ z. into k (neg_ℤ z)) r)
negate_row-typed k i = on_integer-typed k (λ z. into k (neg_ℤ z)) (λ x p. into_in k (neg_ℤ x) i)

pub inverse_row-typed : (k : ValueType) (r : Row) → IsRowOf k r → IsRowOf k (inverse_row k r)
inverse_row-typed value_type.Boolean r p = decided_row-typed _ _
inverse_row-typed value_type.Null r p = on_integer-typed value_type.Null (complement value_type.Null) (complement_in value_type.Null) r p
inverse_row-typed value_type.String r p = on_integer-typed value_type.String (complement value_type.String) (complement_in value_type.String) r p
inverse_row-typed value_type.UInt8 r p = on_integer-typed value_type.UInt8 (complement value_type.UInt8) (complement_in value_type.UInt8) r p
inverse_row-typed value_type.UInt16 r p = on_integer-typed value_type.UInt16 (complement value_type.UInt16) (complement_in value_type.UInt16) r p
inverse_row-typed value_type.UInt32 r p = on_integer-typed value_type.UInt32 (complement value_type.UInt32) (complement_in value_type.UInt32) r p
inverse_row-typed value_type.UInt64 r p = on_integer-typed value_type.UInt64 (complement value_type.UInt64) (complement_in value_type.UInt64) r p
inverse_row-typed value_type.Int8 r p = on_integer-typed value_type.Int8 (complement value_type.Int8) (complement_in value_type.Int8) r p
inverse_row-typed value_type.Int16 r p = on_integer-typed value_type.Int16 (complement value_type.Int16) (complement_in value_type.Int16) r p
inverse_row-typed value_type.Int32 r p = on_integer-typed value_type.Int32 (complement value_type.Int32) (complement_in value_type.Int32) r p
inverse_row-typed value_type.Int64 r p = on_integer-typed value_type.Int64 (complement value_type.Int64) (complement_in value_type.Int64) r p

pub null_row-typed : (r : Row) → IsRowOf value_type.Boolean (null_row r)
null_row-typed None = tt
null_row-typed (Some d) = tt

pub value_row-typed : (r : Row) → IsRowOf value_type.Boolean (value_row r)
value_row-typed None = tt
value_row-typed (Some d) = tt

-- a fused form keeps to an integer type
pub fused_row-typed : (f : FusedOperator) (k : ValueType) → is_integer_value k ≡ true → (r s t : Row) → IsRowOf k (fused_row f k r s t)
fused_row-typed f k i (Some (IntegerValue x)) (Some (IntegerValue y)) (Some (IntegerValue z)) = into_in k (fused f x y z) i
fused_row-typed f k i _ _ _ = tt

-- an integer in an integer type
in_type-typed : (options : CastOptions) (k : ValueType) (z : ℤ) → is_integer_value k ≡ true → IsRowOf k (in_type options k z)
in_type-typed Overflowing k z i = into_in k z i
in_type-typed Strict k z i = go (holds k z) refl
  where
    go : (b : Bool) → holds k z ≡ b → IsRowOf k (cond b (Some (IntegerValue z)) None)
    go true e = (holds_decides k z).0 e
    go false e = tt
in_type-typed NonStrict k z i = go (holds k z) refl
  where
    go : (b : Bool) → holds k z ≡ b → IsRowOf k (cond b (Some (IntegerValue z)) None)
    go true e = (holds_decides k z).0 e
    go false e = tt

truth_in : (k : ValueType) (t : Bool) → is_integer_value k ≡ true → InRange k (cond t (pos 1) (pos 0))
unfolding holds
truth_in value_type.Null t e = cc
truth_in value_type.Boolean t e = cc
truth_in value_type.String t e = cc
truth_in value_type.UInt8 true e = (holds_decides value_type.UInt8 (pos 1)).0 refl
truth_in value_type.UInt8 false e = (holds_decides value_type.UInt8 (pos 0)).0 refl
truth_in value_type.UInt16 true e = (holds_decides value_type.UInt16 (pos 1)).0 refl
truth_in value_type.UInt16 false e = (holds_decides value_type.UInt16 (pos 0)).0 refl
truth_in value_type.UInt32 true e = (holds_decides value_type.UInt32 (pos 1)).0 refl
truth_in value_type.UInt32 false e = (holds_decides value_type.UInt32 (pos 0)).0 refl
truth_in value_type.UInt64 true e = (holds_decides value_type.UInt64 (pos 1)).0 refl
truth_in value_type.UInt64 false e = (holds_decides value_type.UInt64 (pos 0)).0 refl
truth_in value_type.Int8 true e = (holds_decides value_type.Int8 (pos 1)).0 refl
truth_in value_type.Int8 false e = (holds_decides value_type.Int8 (pos 0)).0 refl
truth_in value_type.Int16 true e = (holds_decides value_type.Int16 (pos 1)).0 refl
truth_in value_type.Int16 false e = (holds_decides value_type.Int16 (pos 0)).0 refl
truth_in value_type.Int32 true e = (holds_decides value_type.Int32 (pos 1)).0 refl
truth_in value_type.Int32 false e = (holds_decides value_type.Int32 (pos 0)).0 refl
truth_in value_type.Int64 true e = (holds_decides value_type.Int64 (pos 1)).0 refl
truth_in value_type.Int64 false e = (holds_decides value_type.Int64 (pos 0)).0 refl

as_integer-typed : (options : CastOptions) (k : ValueType) (d : Datum) → is_integer_value k ≡ true → IsRowOf k (as_integer options k d)
as_integer-typed options k (BooleanValue t) i = truth_in k t i
as_integer-typed options k (IntegerValue z) i = in_type-typed options k z i
as_integer-typed options k (StringValue b) i = tt

as_boolean-typed : (d : Datum) → IsRowOf value_type.Boolean (as_boolean d)
as_boolean-typed (BooleanValue t) = tt
as_boolean-typed (IntegerValue z) = tt
as_boolean-typed (StringValue b) = tt

as_string-typed : (d : Datum) → IsRowOf value_type.String (as_string d)
as_string-typed (StringValue b) = tt
as_string-typed (BooleanValue t) = tt
as_string-typed (IntegerValue z) = tt

cast_value-typed : (options : CastOptions) (k : ValueType) (d : Datum) → IsRowOf k (cast_value options k d)
cast_value-typed options value_type.Null d = tt
cast_value-typed options value_type.Boolean d = as_boolean-typed d
cast_value-typed options value_type.String d = as_string-typed d
cast_value-typed options value_type.UInt8 d = as_integer-typed options value_type.UInt8 d refl
cast_value-typed options value_type.UInt16 d = as_integer-typed options value_type.UInt16 d refl
cast_value-typed options value_type.UInt32 d = as_integer-typed options value_type.UInt32 d refl
cast_value-typed options value_type.UInt64 d = as_integer-typed options value_type.UInt64 d refl
cast_value-typed options value_type.Int8 d = as_integer-typed options value_type.Int8 d refl
cast_value-typed options value_type.Int16 d = as_integer-typed options value_type.Int16 d refl
cast_value-typed options value_type.Int32 d = as_integer-typed options value_type.Int32 d refl
cast_value-typed options value_type.Int64 d = as_integer-typed options value_type.Int64 d refl

-- a cast gives rows of its type, whatever it casts
pub cast_row-typed : (options : CastOptions) (k : ValueType) (r : Row) → IsRowOf k (cast_row (cast_value options k) r)
cast_row-typed options k None = tt
cast_row-typed options k (Some d) = cast_value-typed options k d
