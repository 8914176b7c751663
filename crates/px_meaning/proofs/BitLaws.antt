-- Laws of the bits of integers.
use Rattle.std.proofs.Common.{◌≡◌, ◌+◌, ◌<◌, ◌^◌, ◌-◌, ◌∙◌, ℕ, ℤ, pos, negsuc, ◌≤ℤ◌, ◌<ℤ◌, sym, ap, arith}
use Rattle.std.specs.Prelude.{unsigned_abs, FitsSigned, bit_and, bit_or}
use Rattle.std.specs.Int.{Width, w8, w16, w32, w64, bit_not, int_bit_not, cast_signed, cast_unsigned}
use Rattle.std.specs.Int.Bits.{and_lt, or_add_and}
use mir.Val.{bits}
use Rattle.std.proofs.lemmas.Int.{ints, to_z-of_z, of_z-to_z}
use Rattle.std.proofs.lemmas.Nat.{or_lt, and-not, and_comm}
use Rattle.std.proofs.Math.Facts.{Fits-of_z, Fits-lt-pow}
use Rattle.std.proofs.Math.Pow.{ones_sub-lt}
use Rattle.px_semantics.proofs.Ranges.{KeepsBits}
use Rattle.px_semantics.specs.Bitwise.{bitwise, complement}
use Rattle.px_types.specs.Integers.{InRange}
use Rattle.px_types.specs.declared.value_type.ValueType.{ValueType}
use Rattle.px_types.specs.declared.value_type.ValueType.TheVariants as value_type

-- the complement, of a number of p - 1 at most
turned-twice : (p n : ℕ) → n < p → p - 1 - (p - 1 - n) ≡ n
turned-twice p n h = omega arith

bit_not-twice : (w : Width) (n : ℕ) → n < 2 ^ bits w → bit_not w (bit_not w n) ≡ n
bit_not-twice w n h = turned-twice (2 ^ bits w) n h

-- De Morgan
bit_not-and : (w : Width) (m n : ℕ) → m < 2 ^ bits w → n < 2 ^ bits w → bit_not w (bit_and m n) ≡ bit_or (bit_not w m) (bit_not w n)
bit_not-and w m n h i =
    let p = 2 ^ bits w in
    let q : bit_not w n < p = ones_sub-lt (bits w) n in
    let a : bit_or (bit_not w m) (bit_not w n) + bit_and (bit_not w m) (bit_not w n) ≡ bit_not w m + bit_not w n = or_add_and (bit_not w m) (bit_not w n) in
    let b : bit_and (bit_not w m) (bit_not w n) + bit_and m (bit_not w n) ≡ bit_not w n = and-not (bits w) m (bit_not w n) h q in
    let c : bit_and (bit_not w n) m + bit_and n m ≡ m = and-not (bits w) n m i h in
    let d : bit_and (bit_not w n) m ≡ bit_and m (bit_not w n) = and_comm (bit_not w n) m in
    let e : bit_and n m ≡ bit_and m n = and_comm n m in
    omega (arith, a, b, c, d, e, h, i, q)

bit_not-or : (w : Width) (m n : ℕ) → m < 2 ^ bits w → n < 2 ^ bits w → bit_not w (bit_or m n) ≡ bit_and (bit_not w m) (bit_not w n)
bit_not-or w m n h i =
    let p = 2 ^ bits w in
    let q : bit_not w n < p = ones_sub-lt (bits w) n in
    let a : bit_or m n + bit_and m n ≡ m + n = or_add_and m n in
    let b : bit_and (bit_not w m) (bit_not w n) + bit_and m (bit_not w n) ≡ bit_not w n = and-not (bits w) m (bit_not w n) h q in
    let c : bit_and (bit_not w n) m + bit_and n m ≡ m = and-not (bits w) n m i h in
    let d : bit_and (bit_not w n) m ≡ bit_and m (bit_not w n) = and_comm (bit_not w n) m in
    let e : bit_and n m ≡ bit_and m n = and_comm n m in
    let f : bit_or m n < p = or_lt (bits w) m n h i in
    omega (arith, a, b, c, d, e, f, h, i, q)

-- the bits of the negations of two numbers are the negations of the bits
abbrev Turns : (ℕ → ℕ → ℕ) → (ℕ → ℕ → ℕ) → Type 0
Turns f g = (w : Width) (m n : ℕ) → m < 2 ^ bits w → n < 2 ^ bits w → bit_not w (f m n) ≡ g (bit_not w m) (bit_not w n)

unsigned-twice : (w : Width) (x : ℤ) → (pos 0 ≤ℤ x) × (x <ℤ pos (2 ^ bits w)) → pos (bit_not w (bit_not w (unsigned_abs x))) ≡ x
unsigned-twice w (pos a) h = ap pos (bit_not-twice w a (omega (arith, ints)))
unsigned-twice w (negsuc a) h = absurd (omega (arith, ints))

below : (w : Width) (x : ℤ) → FitsSigned w x → cast_unsigned w x < 2 ^ bits w
below w x h = Fits-lt-pow (Fits-of_z h)

turned : (w : Width) (n : ℕ) → bit_not w n < 2 ^ bits w
turned w n = ones_sub-lt (bits w) n

signed-twice : (w : Width) (x : ℤ) → FitsSigned w x → int_bit_not w (int_bit_not w x) ≡ x
signed-twice w x h =
    ap (λ n. cast_signed w (bit_not w n)) (of_z-to_z w (bit_not w (cast_unsigned w x)) (turned w (cast_unsigned w x)))
    ∙ (ap (cast_signed w) (bit_not-twice w (cast_unsigned w x) (below w x h)) ∙ to_z-of_z w x h)

pub complement-twice : (k : ValueType) (x : ℤ) → InRange k x → complement k (complement k x) ≡ x
complement-twice value_type.Null x h = absurd h
complement-twice value_type.Boolean x h = absurd h
complement-twice value_type.String x h = absurd h
complement-twice value_type.UInt8 x h = unsigned-twice w8 x h
complement-twice value_type.UInt16 x h = unsigned-twice w16 x h
complement-twice value_type.UInt32 x h = unsigned-twice w32 x h
complement-twice value_type.UInt64 x h = unsigned-twice w64 x h
complement-twice value_type.Int8 x h = signed-twice w8 x h
complement-twice value_type.Int16 x h = signed-twice w16 x h
complement-twice value_type.Int32 x h = signed-twice w32 x h
complement-twice value_type.Int64 x h = signed-twice w64 x h

module _ (f g : ℕ → ℕ → ℕ) (keeps : KeepsBits f) (turns : Turns f g) where
  unsigned-turns :
      (w : Width) (x y : ℤ) → (pos 0 ≤ℤ x) × (x <ℤ pos (2 ^ bits w)) → (pos 0 ≤ℤ y) × (y <ℤ pos (2 ^ bits w)) →
      pos (bit_not w (f (unsigned_abs x) (unsigned_abs y))) ≡ pos (g (bit_not w (unsigned_abs x)) (bit_not w (unsigned_abs y)))
  unsigned-turns w (pos a) (pos b) h i = ap pos (turns w a b (omega (arith, ints)) (omega (arith, ints)))
  unsigned-turns w (pos a) (negsuc b) h i = absurd (omega (arith, ints))
  unsigned-turns w (negsuc a) y h i = absurd (omega (arith, ints))

  signed-turns :
      (w : Width) (x y : ℤ) → FitsSigned w x → FitsSigned w y →
      int_bit_not w (cast_signed w (f (cast_unsigned w x) (cast_unsigned w y))) ≡ cast_signed w (g (cast_unsigned w (int_bit_not w x)) (cast_unsigned w (int_bit_not w y)))
  signed-turns w x y h i =
      let m = cast_unsigned w x in
      let n = cast_unsigned w y in
      ap (λ z. cast_signed w (bit_not w z)) (of_z-to_z w (f m n) (keeps (bits w) m n (below w x h) (below w y i)))
      ∙ (ap (cast_signed w) (turns w m n (below w x h) (below w y i))
      ∙ (ap (λ z. cast_signed w (g z (bit_not w n))) (sym (of_z-to_z w (bit_not w m) (turned w m)))
      ∙ ap (λ z. cast_signed w (g (cast_unsigned w (cast_signed w (bit_not w m))) z)) (sym (of_z-to_z w (bit_not w n) (turned w n)))))

  pub complement-turns : (k : ValueType) (x y : ℤ) → InRange k x → InRange k y → complement k (bitwise f k x y) ≡ bitwise g k (complement k x) (complement k y)
  complement-turns value_type.Null x y h i = absurd h
  complement-turns value_type.Boolean x y h i = absurd h
  complement-turns value_type.String x y h i = absurd h
  complement-turns value_type.UInt8 x y h i = unsigned-turns w8 x y h i
  complement-turns value_type.UInt16 x y h i = unsigned-turns w16 x y h i
  complement-turns value_type.UInt32 x y h i = unsigned-turns w32 x y h i
  complement-turns value_type.UInt64 x y h i = unsigned-turns w64 x y h i
  complement-turns value_type.Int8 x y h i = signed-turns w8 x y h i
  complement-turns value_type.Int16 x y h i = signed-turns w16 x y h i
  complement-turns value_type.Int32 x y h i = signed-turns w32 x y h i
  complement-turns value_type.Int64 x y h i = signed-turns w64 x y h i

pub complement-and : (k : ValueType) (x y : ℤ) → InRange k x → InRange k y → complement k (bitwise bit_and k x y) ≡ bitwise bit_or k (complement k x) (complement k y)
complement-and = complement-turns bit_and bit_or and_lt bit_not-and

pub complement-or : (k : ValueType) (x y : ℤ) → InRange k x → InRange k y → complement k (bitwise bit_or k x y) ≡ bitwise bit_and k (complement k x) (complement k y)
complement-or = complement-turns bit_or bit_and or_lt bit_not-or
