-- A number and the text of its digits.
use Rattle.std.proofs.Common.{◌≡◌, ◌==◌, ℕ, suc, ◌<◌, ◌^◌, ℤ, pos, negsuc, List, [], ◌∷◌, Bool, true, false, cond, bytes_eq, decimal, Some, refl, ap, ◌∙◌, ltb-true, arith}
use Rattle.std.proofs.lemmas.Fmt.{decimal_is_IsNumeral_wide}
use Rattle.std.proofs.lemmas.Slice.Eq.{bytes_eq-Decides}
use Rattle.std.specs.Fmt.{signed_decimal}
use Rattle.std.specs.Str.Parse.{IsNumeral, starts_with_minus, signed_digits_value, without_leading_plus}
use Rattle.serde_json.specs.Data.{string, number}
use Rattle.serde_json.specs.Find.{of_integer}
use Rattle.px_json.specs.Digits.{has_128_bits, if_digits_of, integer_of_text, integer, is_plain_number, integer_data}
use Rattle.px_json.proofs.DigitLemmas.{minus, plus}
use Rattle.px_json.proofs.RoundTrip.{as_integer-of_integer}

no_minus : (ds : List ℕ) → IsNumeral 10 ds → starts_with_minus ds ≡ false
no_minus [] n = absurd (omega (arith, n.0))
no_minus (c ∷ cs) n = minus c (c == 45) refl n.1.0

no_plus : (ds : List ℕ) → IsNumeral 10 ds → without_leading_plus ds ≡ ds
no_plus [] n = absurd (omega (arith, n.0))
no_plus (c ∷ cs) n = rw (plus c (c == 43) refl n.1.0) refl

-- the digits of a number write it
number_of_digits : (z : ℤ) → has_128_bits z ≡ true → signed_digits_value 10 (signed_decimal z) ≡ z
number_of_digits (pos n) h =
    let small : n < 2 ^ 127 = ltb-true n (2 ^ 127) h in
    let (is, value) = decimal_is_IsNumeral_wide n (omega arith) in
    rw (no_minus (decimal n) is, no_plus (decimal n) is, value) refl
number_of_digits (negsuc n) h =
    let small : n < 2 ^ 127 = ltb-true n (2 ^ 127) h in
    let (is, value) = decimal_is_IsNumeral_wide (suc n) (omega arith) in
    rw value refl

same_text : (s : List ℕ) → bytes_eq s s ≡ true
same_text s = (bytes_eq-Decides s s).1 refl

text_again : (z : ℤ) → has_128_bits z ≡ true → integer_of_text (signed_decimal z) ≡ Some z
text_again z h = ap (λ y. if_digits_of y (signed_decimal z)) (number_of_digits z h) ∙ rw (h, same_text (signed_decimal z)) refl

-- a number reads as it was written
pub integer-integer_data : (z : ℤ) → has_128_bits z ≡ true → integer (integer_data z) ≡ Some z
integer-integer_data z h = go (is_plain_number z) refl
  where
    go : (b : Bool) → is_plain_number z ≡ b → integer (cond b (number (of_integer z)) (string (signed_decimal z))) ≡ Some z
    go true e = as_integer-of_integer z
    go false e = text_again z h
