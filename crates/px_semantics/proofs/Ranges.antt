-- The numbers of a type are closed under its operations.
use Rattle.std.proofs.Common.{ℕ, zero, suc, ◌≡◌, ◌<◌, ◌^◌, ◌≤ℤ◌, ◌<ℤ◌, ℤ, pos, negsuc, cond, false, nat_eq, sym, subst, arith}
use Rattle.std.proofs.lemmas.Bool.Decides.{nat_tests}
use Rattle.std.specs.Prelude.{FitsSigned, unsigned_abs}
use Rattle.std.specs.Int.{Width, cast_signed, cast_unsigned, bit_not, int_bit_not}
use mir.Val.{bits}
use Rattle.std.proofs.lemmas.Int.{ints}
use Rattle.std.proofs.Math.Facts.{sfits_to_z, Fits-of_lt, Fits-of_z, Fits-lt-pow}
use Rattle.std.proofs.Math.Pow.{ones_sub-lt}
use Rattle.px_semantics.specs.Arithmetic.{floor_quotient, is_zero}
use Rattle.px_types.specs.Integers.{into, InRange}
use Rattle.px_types.specs.declared.value_type.ValueType.{ValueType}

-- f of two numbers of k bits has k bits
abbrev pub KeepsBits : (ℕ → ℕ → ℕ) → Type 0
KeepsBits f = (k a b : ℕ) → a < 2 ^ k → b < 2 ^ k → f a b < 2 ^ k

pub signed_bits : (w : Width) (f : ℕ → ℕ → ℕ) → KeepsBits f → (x y : ℤ) → FitsSigned w x → FitsSigned w y → FitsSigned w (cast_signed w (f (cast_unsigned w x) (cast_unsigned w y)))
signed_bits w f h x y p q = sfits_to_z (Fits-of_lt (h _ _ _ (Fits-lt-pow (Fits-of_z p)) (Fits-lt-pow (Fits-of_z q))))

pub signed_complement : (w : Width) (x : ℤ) → FitsSigned w x → FitsSigned w (int_bit_not w x)
signed_complement w x p = sfits_to_z (Fits-of_lt (ones_sub-lt _ (cast_unsigned w x)))

within : (k n : ℕ) → n < 2 ^ k → (pos 0 ≤ℤ pos n) × (pos n <ℤ pos (2 ^ k))
within k n h = (omega (arith, ints), omega (arith, ints))

pub unsigned_bits : (k : ℕ) (f : ℕ → ℕ → ℕ) → KeepsBits f → (x y : ℤ) → (pos 0 ≤ℤ x) × (x <ℤ pos (2 ^ k)) → (pos 0 ≤ℤ y) × (y <ℤ pos (2 ^ k))
    → (pos 0 ≤ℤ pos (f (unsigned_abs x) (unsigned_abs y))) × (pos (f (unsigned_abs x) (unsigned_abs y)) <ℤ pos (2 ^ k))
unsigned_bits k f h (pos a) (pos b) p q = within k (f a b) (h k a b (omega (arith, ints)) (omega (arith, ints)))
unsigned_bits k f h (pos a) (negsuc b) p q = absurd (omega (arith, ints))
unsigned_bits k f h (negsuc a) y p q = absurd (omega (arith, ints))

pub unsigned_complement : (w : Width) (x : ℤ) → (pos 0 ≤ℤ x) × (x <ℤ pos (2 ^ bits w)) → (pos 0 ≤ℤ pos (bit_not w (unsigned_abs x))) × (pos (bit_not w (unsigned_abs x)) <ℤ pos (2 ^ bits w))
unsigned_complement w x p = within (bits w) (bit_not w (unsigned_abs x)) (ones_sub-lt (bits w) (unsigned_abs x))

-- the quotient, 0 by 0, is one of the type's numbers
pub quotient_of_range : (value_type : ValueType) → ((z : ℤ) → InRange value_type (into value_type z)) → (a b : ℤ) → InRange value_type b
    → InRange value_type (cond (is_zero b) (pos 0) (into value_type (floor_quotient a b)))
quotient_of_range value_type h a (pos zero) f = f
quotient_of_range value_type h a (pos (suc b)) f =
    let e : nat_eq (suc b) 0 ≡ false = grind (arith, nat_tests) in
    subst (λ c. InRange value_type (cond c (pos 0) (into value_type (floor_quotient a (pos (suc b)))))) (sym e) (h (floor_quotient a (pos (suc b))))
quotient_of_range value_type h a (negsuc b) f = h (floor_quotient a (negsuc b))
