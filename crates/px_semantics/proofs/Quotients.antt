-- Floor quotients and remainders.
use Rattle.std.proofs.Common.{◌≡◌, ◌≢◌, inl, inr, ◌<◌, ◌≤◌, ◌+◌, ◌^◌, ◌≤ℤ◌, ◌<ℤ◌, ◌-ℤ◌, ◌*ℤ◌, ◌+ℤ◌, neg_ℤ, ℕ, ℤ, pos, negsuc, zero, suc, cond, false, nat_eq, sym, subst, refl, arith, mul-le-mul_left}
use Rattle.std.specs.Prelude.{FitsSigned}
use Rattle.std.specs.Int.{Width, int_div_euclid, w8, w16, w32, w64}
use Rattle.std.proofs.lemmas.Bool.Decides.{nat_tests}
use Rattle.std.proofs.lemmas.Int.{ints, by_lt_z}
use Rattle.px_semantics.specs.Arithmetic.{floor_quotient, floor_remainder, is_zero, IsRemainderBy, IsFloorQuotient}
use Rattle.px_types.specs.Integers.{InRange}
use Rattle.px_types.specs.declared.value_type.ValueType.{ValueType}
use Rattle.px_types.specs.declared.value_type.ValueType.TheVariants.{Null, Boolean, String, UInt8, UInt16, UInt32, UInt64, Int8, Int16, Int32, Int64}

euclid_remainder : (a : ℤ) (b : ℕ) → 0 < b → (pos 0 ≤ℤ (a -ℤ (pos b *ℤ int_div_euclid a (pos b)))) × ((a -ℤ (pos b *ℤ int_div_euclid a (pos b))) <ℤ pos b)
euclid_remainder (pos a) b h = (omega (arith, ints), omega (arith, ints))
euclid_remainder (negsuc a) b h = (omega (arith, ints), omega (arith, ints))

-- the remainder of a negative divisor is the negation of that of the negated number by the negated divisor
opposite_rest : (a q : ℤ) (b : ℕ) → (a -ℤ (negsuc b *ℤ q)) ≡ neg_ℤ (neg_ℤ a -ℤ (pos (suc b) *ℤ q))
opposite_rest a q b = omega (arith, ints)

opposite_within : (b : ℕ) (r s : ℤ) → s ≡ neg_ℤ r → (pos 0 ≤ℤ r) × (r <ℤ pos (suc b)) → (negsuc b <ℤ s) × (s ≤ℤ pos 0)
opposite_within b r s e h = (omega (arith, ints), omega (arith, ints))

-- the floor quotient has the property
pub floor_quotient_is : (a b : ℤ) → b ≢ pos 0 → IsFloorQuotient a b (floor_quotient a b)
floor_quotient_is a (pos zero) h = absurd (h refl)
floor_quotient_is a (pos (suc b)) h = inl (euclid_remainder a (suc b) (omega arith))
floor_quotient_is a (negsuc b) h = inr (opposite_within b (neg_ℤ a -ℤ (pos (suc b) *ℤ floor_quotient a (negsuc b))) (floor_remainder a (negsuc b)) (opposite_rest a (floor_quotient a (negsuc b)) b) (euclid_remainder (neg_ℤ a) (suc b) (omega arith)))

-- greater quotients leave less, by the divisor at least
apart : (b : ℕ) (p q : ℤ) → p <ℤ q → ((pos b *ℤ p) +ℤ pos b) ≤ℤ (pos b *ℤ q)
apart b (pos m) (pos n) h = let more : m + 1 ≤ n = omega (arith, ints) in omega (arith, ints, mul-le-mul_left b more)
apart b (pos m) (negsuc n) h = absurd (omega (arith, ints))
apart b (negsuc m) (pos n) h = omega (arith, ints)
apart b (negsuc m) (negsuc n) h = let more : n + 1 ≤ m = omega (arith, ints) in omega (arith, ints, mul-le-mul_left b more)

one_quotient : (b : ℕ) (a p q : ℤ) → (pos 0 ≤ℤ (a -ℤ (pos b *ℤ p))) × ((a -ℤ (pos b *ℤ p)) <ℤ pos b) → (pos 0 ≤ℤ (a -ℤ (pos b *ℤ q))) × ((a -ℤ (pos b *ℤ q)) <ℤ pos b) → p ≡ q
one_quotient b a p q g h =
    by_lt_z p q (λ less. absurd (omega (arith, ints, apart b p q less)))
    (λ no. by_lt_z q p (λ less. absurd (omega (arith, ints, apart b q p less))) (λ none. omega (arith, ints)))

opposite_back : (b : ℕ) (r s : ℤ) → s ≡ neg_ℤ r → (negsuc b <ℤ s) × (s ≤ℤ pos 0) → (pos 0 ≤ℤ r) × (r <ℤ pos (suc b))
opposite_back b r s e h = (omega (arith, ints), omega (arith, ints))

none_by_zero : (r : ℤ) → (pos 0 ≤ℤ r) × (r <ℤ pos 0) → ⊥
none_by_zero r h = omega (arith, ints)

no_sign : (b : ℕ) (r : ℤ) → (pos b <ℤ r) × (r ≤ℤ pos 0) → ⊥
no_sign b r h = omega (arith, ints)

other_sign : (b : ℕ) (r : ℤ) → (pos 0 ≤ℤ r) × (r <ℤ negsuc b) → ⊥
other_sign b r h = omega (arith, ints)

-- and no other number has it
pub floor_quotient_only : (a b q : ℤ) → IsFloorQuotient a b q → q ≡ floor_quotient a b
floor_quotient_only a (pos zero) q (inl h) = absurd (none_by_zero (a -ℤ (pos 0 *ℤ q)) h)
floor_quotient_only a (pos (suc b)) q (inl h) = one_quotient (suc b) a q (int_div_euclid a (pos (suc b))) h (euclid_remainder a (suc b) (omega arith))
floor_quotient_only a (pos b) q (inr h) = absurd (no_sign b (a -ℤ (pos b *ℤ q)) h)
floor_quotient_only a (negsuc b) q (inl h) = absurd (other_sign b (a -ℤ (negsuc b *ℤ q)) h)
floor_quotient_only a (negsuc b) q (inr h) =
    one_quotient (suc b) (neg_ℤ a) q (floor_quotient a (negsuc b)) (opposite_back b (neg_ℤ a -ℤ (pos (suc b) *ℤ q)) (a -ℤ (negsuc b *ℤ q)) (opposite_rest a q b) h) (euclid_remainder (neg_ℤ a) (suc b) (omega arith))

-- a number between 0 and one of the type's is the type's
pub signed_remainder : (w : Width) (b r : ℤ) → IsRemainderBy b r → FitsSigned w b → FitsSigned w r
signed_remainder w b r (inl h) f = omega (arith, ints)
signed_remainder w b r (inr h) f = omega (arith, ints)

unsigned_remainder : (n : ℕ) (b r : ℤ) → IsRemainderBy b r → (pos 0 ≤ℤ b) × (b <ℤ pos n) → (pos 0 ≤ℤ r) × (r <ℤ pos n)
unsigned_remainder n b r (inl h) f = (omega (arith, ints), omega (arith, ints))
unsigned_remainder n b r (inr h) f = absurd (omega (arith, ints))

pub remainder_in_range : (value_type : ValueType) (b r : ℤ) → IsRemainderBy b r → InRange value_type b → InRange value_type r
remainder_in_range UInt8 b r h f = unsigned_remainder (2 ^ 8) b r h f
remainder_in_range UInt16 b r h f = unsigned_remainder (2 ^ 16) b r h f
remainder_in_range UInt32 b r h f = unsigned_remainder (2 ^ 32) b r h f
remainder_in_range UInt64 b r h f = unsigned_remainder (2 ^ 64) b r h f
remainder_in_range Int8 b r h f = signed_remainder w8 b r h f
remainder_in_range Int16 b r h f = signed_remainder w16 b r h f
remainder_in_range Int32 b r h f = signed_remainder w32 b r h f
remainder_in_range Int64 b r h f = signed_remainder w64 b r h f
remainder_in_range Null b r h f = absurd f
remainder_in_range Boolean b r h f = absurd f
remainder_in_range String b r h f = absurd f

-- what is left by a number of the type, 0 by 0, is the type's
pub remainder_of_range : (value_type : ValueType) (a b : ℤ) → InRange value_type b → InRange value_type (cond (is_zero b) (pos 0) (floor_remainder a b))
remainder_of_range value_type a (pos zero) f = f
remainder_of_range value_type a (pos (suc b)) f =
    let e : nat_eq (suc b) 0 ≡ false = grind (arith, nat_tests) in
    subst (λ c. InRange value_type (cond c (pos 0) (floor_remainder a (pos (suc b))))) (sym e) (remainder_in_range value_type (pos (suc b)) (floor_remainder a (pos (suc b))) (inl (euclid_remainder a (suc b) (omega arith))) f)
remainder_of_range value_type a (negsuc b) f = remainder_in_range value_type (negsuc b) (floor_remainder a (negsuc b)) (floor_quotient_is a (negsuc b) (λ e. omega (arith, ints))) f
