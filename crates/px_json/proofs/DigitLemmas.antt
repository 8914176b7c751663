-- What is not read as a number is no number's decimal text.
use Rattle.std.proofs.Common.{◌≡◌, ℕ, suc, ◌<◌, ◌^◌, ◌==◌, ℤ, pos, negsuc, List, [], ◌∷◌, Bool, true, false, ◌&&◌, bytes_eq, decimal, Some, None, refl, ap, ltb-true, eqb-true, arith}
use Rattle.std.proofs.lemmas.Fmt.{decimal_is_IsNumeral_wide}
use Rattle.std.proofs.lemmas.Slice.Eq.{bytes_eq-Decides}
use Rattle.std.specs.Fmt.{signed_decimal}
use Rattle.std.specs.Prelude.{FitsSigned}
use Rattle.std.specs.Int.{w128}
use Rattle.std.specs.Str.Parse.{IsNumeral, without_leading_sign, signed_digits_value}
use Rattle.std.specs.Char.{digit_value}
use Rattle.px_json.specs.JsonAccess.{only_if}
use Rattle.px_json.specs.Digits.{has_128_bits, integer_of_text}

-- a digit is no sign
pub minus : (c : ℕ) (b : Bool) → (c == 45) ≡ b → digit_value c < 10 → b ≡ false
minus c true e d = let is : c ≡ 45 = eqb-true c 45 e in absurd (omega (arith, ap digit_value is))
minus c false e d = refl

pub plus : (c : ℕ) (b : Bool) → (c == 43) ≡ b → digit_value c < 10 → b ≡ false
plus c true e d = let is : c ≡ 43 = eqb-true c 43 e in absurd (omega (arith, ap digit_value is))
plus c false e d = refl

no_sign : (ds : List ℕ) → IsNumeral 10 ds → without_leading_sign ds ≡ ds
no_sign [] n = absurd (omega (arith, n.0))
no_sign (c ∷ cs) n = rw (minus c (c == 45) refl n.1.0, plus c (c == 43) refl n.1.0) refl

numeral : (n : ℕ) → n < 10 ^ 64 → IsNumeral 10 (decimal n)
numeral n h = (decimal_is_IsNumeral_wide n h).0

numeral_of : (z : ℤ) → has_128_bits z ≡ true → IsNumeral 10 (without_leading_sign (signed_decimal z))
numeral_of (pos n) h =
    let small : n < 2 ^ 127 = ltb-true n (2 ^ 127) h in
    let is : IsNumeral 10 (decimal n) = numeral n (omega arith) in
    rw (no_sign (decimal n) is) is
numeral_of (negsuc n) h =
    let small : n < 2 ^ 127 = ltb-true n (2 ^ 127) h in
    numeral (suc n) (omega arith)

fits : (z : ℤ) → has_128_bits z ≡ true → FitsSigned w128 z
fits (pos n) h = record { sfits = ltb-true n (2 ^ 127) h }
fits (negsuc n) h = record { sfits = ltb-true n (2 ^ 127) h }

no_text : (s : List ℕ) (z : ℤ) (a b : Bool) → has_128_bits z ≡ a → bytes_eq (signed_decimal z) s ≡ b → ¬ (IsNumeral 10 (without_leading_sign s) × FitsSigned w128 z) → None ≡ only_if (a && b) (Some z)
no_text s z true true p q h =
    let is : signed_decimal z ≡ s = (bytes_eq-Decides (signed_decimal z) s).0 q in
    absurd (h (rw (← is) (numeral_of z p), fits z p))
no_text s z true false p q h = refl
no_text s z false b p q h = refl

pub not_read : (s : List ℕ) → ¬ (IsNumeral 10 (without_leading_sign s) × FitsSigned w128 (signed_digits_value 10 s)) → None ≡ integer_of_text s
not_read s h = no_text s (signed_digits_value 10 s) _ _ refl refl h
