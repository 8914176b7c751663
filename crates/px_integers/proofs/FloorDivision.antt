-- Quotients and remainders floor division, by those rounded towards zero.
use Rattle.std.proofs.Common.{◌≡◌, ◌≢◌, ◌∙◌, ◌<◌, ◌≤◌, ◌-◌, ◌/◌, ◌%◌, ◌^◌, ◌+ℤ◌, ◌-ℤ◌, ◌*ℤ◌, neg_ℤ, ℕ, ℤ, pos, negsuc, zero, suc, cond, true, false, nat_eq, sym, ap, subst, refl, inl, inr, arith, unsigned_abs}
use Rattle.std.specs.Prelude.{FitsSigned, int_div, int_rem}
use Rattle.std.specs.Int.{Width, cast_signed, cast_unsigned, int_wrap}
use mir.Val.{bits}
use Rattle.std.proofs.lemmas.Bool.Decides.{nat_tests}
use Rattle.std.proofs.lemmas.Int.{ints, quot-rem, rem_below, to_z-of_z, SFits-int_wrap}
use Rattle.std.proofs.Math.IntN.{*ℤ_comm, -ℤ_one, pred_ℤ-*ℤ}
use Rattle.std.proofs.Math.Nat.{mod-eq_of_lt, div-le_self}
use Rattle.px_semantics.specs.Arithmetic.{floor_quotient, floor_remainder, is_zero, IsRemainderBy}
use Rattle.px_semantics.specs.Bitwise.{complement}
use Rattle.px_types.specs.Integers.{into, InRange}
use Rattle.px_types.specs.declared.value_type.ValueType.{ValueType}
use Rattle.px_types.specs.declared.value_type.ValueType.TheVariants.{Null, Boolean, String, UInt8, UInt16, UInt32, UInt64, Int8, Int16, Int32, Int64}
use Rattle.px_semantics.proofs.CastLemmas.{into_keeps}
use Rattle.px_semantics.proofs.Quotients.{floor_quotient_only, remainder_in_range}
use Rattle.px_types.proofs.Wrapping.{into-add_left, into-add_right}
use Rattle.px_integers.specs.Quotients.{quotient_of, remainder_of, has_opposite_sign}

not_zero : (y : ℤ) → y ≢ pos 0 → is_zero y ≡ false
not_zero (pos zero) h = absurd (h refl)
not_zero (pos (suc n)) h = let e : nat_eq (suc n) 0 ≡ false = grind (arith, nat_tests) in e
not_zero (negsuc n) h = refl

size_not_zero : (y : ℤ) → y ≢ pos 0 → 0 < unsigned_abs y
size_not_zero (pos zero) h = absurd (h refl)
size_not_zero (pos (suc n)) h = omega arith
size_not_zero (negsuc n) h = omega arith

-- a remainder smaller than the divisor is the one floor division where the signs are not opposite
rest_kept : (b r : ℤ) → unsigned_abs r < unsigned_abs b → has_opposite_sign r b ≡ false → IsRemainderBy b r
rest_kept (pos b) (pos r) h e = inl (omega (arith, ints), omega (arith, ints))
rest_kept (pos b) (negsuc r) h e = absurd (grind (arith, ints))
rest_kept (negsuc b) (pos zero) h e = inr (omega (arith, ints), omega (arith, ints))
rest_kept (negsuc b) (pos (suc r)) h e = absurd (grind (arith, ints))
rest_kept (negsuc b) (negsuc r) h e = inr (omega (arith, ints), omega (arith, ints))

-- and otherwise with the divisor added
rest_moved : (b r : ℤ) → unsigned_abs r < unsigned_abs b → has_opposite_sign r b ≡ true → IsRemainderBy b (r +ℤ b)
rest_moved (pos b) (pos r) h e = absurd (grind (arith, ints))
rest_moved (pos b) (negsuc r) h e = inl (omega (arith, ints), omega (arith, ints))
rest_moved (negsuc b) (pos zero) h e = absurd (grind (arith, ints))
rest_moved (negsuc b) (pos (suc r)) h e = inr (omega (arith, ints), omega (arith, ints))
rest_moved (negsuc b) (negsuc r) h e = absurd (grind (arith, ints))

left_by : (x y q r : ℤ) → q *ℤ y +ℤ r ≡ x → r ≡ x -ℤ (y *ℤ q)
left_by x y q r e = let c = *ℤ_comm y q in omega (arith, ints, c, e)

left_by_lower : (x y q r : ℤ) → q *ℤ y +ℤ r ≡ x → r +ℤ y ≡ x -ℤ (y *ℤ (q +ℤ negsuc 0))
left_by_lower x y q r e =
    let d : y *ℤ (q +ℤ negsuc 0) ≡ q *ℤ y -ℤ y = *ℤ_comm y (q +ℤ negsuc 0) ∙ ap (λ z. z *ℤ y) (-ℤ_one q) ∙ pred_ℤ-*ℤ q y in
    rw d (omega (arith, ints, e))

quotient_kept : (x y : ℤ) → y ≢ pos 0 → has_opposite_sign (int_rem x y) y ≡ false → int_div x y ≡ floor_quotient x y
quotient_kept x y h e =
    let q = int_div x y in
    let r = int_rem x y in
    floor_quotient_only x y q (subst (IsRemainderBy y) (left_by x y q r (quot-rem x y)) (rest_kept y r (rem_below x y (size_not_zero y h)) e))

quotient_moved : (x y : ℤ) → y ≢ pos 0 → has_opposite_sign (int_rem x y) y ≡ true → int_div x y +ℤ negsuc 0 ≡ floor_quotient x y
quotient_moved x y h e =
    let q = int_div x y in
    let r = int_rem x y in
    floor_quotient_only x y (q +ℤ negsuc 0) (subst (IsRemainderBy y) (left_by_lower x y q r (quot-rem x y)) (rest_moved y r (rem_below x y (size_not_zero y h)) e))

complement_of_zero : (value_type : ValueType) → InRange value_type (pos 0) → complement value_type (pos 0) ≡ into value_type (negsuc 0)
unfolding int_wrap
complement_of_zero UInt8 h = refl
complement_of_zero UInt16 h = refl
complement_of_zero UInt32 h = refl
complement_of_zero UInt64 h = refl
complement_of_zero Int8 h = refl
complement_of_zero Int16 h = refl
complement_of_zero Int32 h = refl
complement_of_zero Int64 h = refl
complement_of_zero Null h = absurd h
complement_of_zero Boolean h = absurd h
complement_of_zero String h = absurd h

-- what floor_quotient and floor_remainder answer, by the zero, the quotient and the remainder that they have
pub kept_quotient : (value_type : ValueType) (x y q r : ℤ) → y ≢ pos 0 → q ≡ into value_type (int_div x y) → r ≡ int_rem x y
    → has_opposite_sign r y ≡ false → q ≡ quotient_of value_type x y
kept_quotient value_type x y q r h e f o =
    let opposite = sym (ap (λ z. has_opposite_sign z y) f) ∙ o in
    e ∙ ap (into value_type) (quotient_kept x y h opposite) ∙ sym (ap (λ b. cond b (pos 0) (into value_type (floor_quotient x y))) (not_zero y h))

pub moved_quotient : (value_type : ValueType) (x y none q r : ℤ) → y ≢ pos 0 → none ≡ pos 0 → InRange value_type none → q ≡ into value_type (int_div x y) → r ≡ int_rem x y
    → has_opposite_sign r y ≡ true → into value_type (q +ℤ complement value_type none) ≡ quotient_of value_type x y
moved_quotient value_type x y none q r h n i e f o =
    let opposite = sym (ap (λ z. has_opposite_sign z y) f) ∙ o in
    let t = int_div x y in
    ap (λ z. into value_type (q +ℤ complement value_type z)) n
    ∙ ap (λ z. into value_type (q +ℤ z)) (complement_of_zero value_type (subst (InRange value_type) n i))
    ∙ into-add_right value_type q (negsuc 0)
    ∙ ap (λ z. into value_type (z +ℤ negsuc 0)) e
    ∙ into-add_left value_type t (negsuc 0)
    ∙ ap (into value_type) (quotient_moved x y h opposite)
    ∙ sym (ap (λ b. cond b (pos 0) (into value_type (floor_quotient x y))) (not_zero y h))

pub kept_rest : (x y r : ℤ) → y ≢ pos 0 → r ≡ int_rem x y → has_opposite_sign r y ≡ false → r ≡ remainder_of x y
kept_rest x y r h f o =
    let opposite = sym (ap (λ z. has_opposite_sign z y) f) ∙ o in
    let q = int_div x y in
    f ∙ left_by x y q (int_rem x y) (quot-rem x y)
    ∙ ap (λ z. x -ℤ (y *ℤ z)) (quotient_kept x y h opposite)
    ∙ sym (ap (λ b. cond b (pos 0) (floor_remainder x y)) (not_zero y h))

pub moved_rest : (value_type : ValueType) (x y r : ℤ) → y ≢ pos 0 → InRange value_type y → r ≡ int_rem x y → has_opposite_sign r y ≡ true → into value_type (r +ℤ y) ≡ remainder_of x y
moved_rest value_type x y r h i f o =
    let opposite = sym (ap (λ z. has_opposite_sign z y) f) ∙ o in
    let t = int_rem x y in
    let is : t +ℤ y ≡ floor_remainder x y = left_by_lower x y (int_div x y) t (quot-rem x y) ∙ ap (λ z. x -ℤ (y *ℤ z)) (quotient_moved x y h opposite) in
    ap (λ z. into value_type (z +ℤ y)) f
    ∙ into_keeps value_type (t +ℤ y) (remainder_in_range value_type y (t +ℤ y) (rest_moved y t (rem_below x y (size_not_zero y h)) opposite) i)
    ∙ is
    ∙ sym (ap (λ b. cond b (pos 0) (floor_remainder x y)) (not_zero y h))

-- the quotient of processors is the one that wraps
size_of_negation : (n : ℕ) → unsigned_abs (neg_ℤ (pos n)) ≡ n
size_of_negation zero = refl
size_of_negation (suc n) = refl

quotient_size : (x y : ℤ) → unsigned_abs (int_div x y) ≤ unsigned_abs x
quotient_size (pos a) (pos b) = div-le_self a b
quotient_size (pos a) (negsuc b) = omega (arith, size_of_negation (a / suc b), div-le_self a (suc b))
quotient_size (negsuc a) (pos b) = omega (arith, size_of_negation (suc a / b), div-le_self (suc a) b)
quotient_size (negsuc a) (negsuc b) = div-le_self (suc a) (suc b)

narrowed : (w : Width) (z : ℤ) → unsigned_abs z < 2 ^ bits w → cast_signed w (cast_unsigned w z) ≡ int_wrap w z
unfolding int_wrap
narrowed w (pos n) h = ap (cast_signed w) (sym (mod-eq_of_lt h))
narrowed w (negsuc n) h =
    let below : n < 2 ^ bits w = omega (arith, h) in
    let same : 2 ^ bits w - suc n ≡ 2 ^ bits w - 1 - n % 2 ^ bits w = omega (arith, mod-eq_of_lt below) in
    ap (cast_signed w) same

pub wrapped_quotient : (w : Width) (x y r : ℤ) → r ≡ cast_signed w (cast_unsigned w (int_div (cast_signed w (cast_unsigned w x)) (cast_signed w (cast_unsigned w y))))
    → FitsSigned w x → FitsSigned w y → unsigned_abs x < 2 ^ bits w → cast_signed w (cast_unsigned w r) ≡ int_wrap w (int_div x y)
wrapped_quotient w x y r e f g h =
    let z = int_div x y in
    let small : unsigned_abs z < 2 ^ bits w = omega (arith, quotient_size x y, h) in
    let is : r ≡ int_wrap w z =
    e ∙ ap (λ a. cast_signed w (cast_unsigned w (int_div a (cast_signed w (cast_unsigned w y))))) (to_z-of_z w x f)
    ∙ ap (λ b. cast_signed w (cast_unsigned w (int_div x b))) (to_z-of_z w y g)
    ∙ narrowed w z small in
    ap (λ a. cast_signed w (cast_unsigned w a)) is ∙ to_z-of_z w (int_wrap w z) (SFits-int_wrap w z)
