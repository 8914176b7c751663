-- What literals are written as.
use Rattle.std.proofs.Common.{◌≡◌, ◌<◌, ◌^◌, ℤ, pos, negsuc, length, codes, Bool, true, false, cond, Some, is_some, FitsSigned, refl, sym, ap, ◌∙◌}
use Rattle.std.specs.Fmt.{signed_decimal}
use Rattle.std.specs.Int.{w128}
use Rattle.std.specs.Simd.Lanes.{Each1}
use Rattle.std.proofs.lemmas.Bool.{lt-ltb}
use Rattle.serde_json.specs.Data.{Data, number, string}
use Rattle.serde_json.specs.Find.{as_number, of_integer}
use Rattle.px_types.specs.Integers.{InRange}
use Rattle.px_semantics.specs.Rows.{IsRowOf, Contents}
use Rattle.px_types.specs.declared.value_type.ValueType.{ValueType}
use Rattle.px_semantics.proofs.CastLemmas.{holds_decides}
use Rattle.px_semantics.proofs.ColumnLemmas.{column-is_column}
use Rattle.px_expr.specs.declared.literal.LiteralValue.TheVariants as value
use Rattle.px_json.specs.Built.{single_member}
use Rattle.px_json.specs.Column.{column_data}
use Rattle.px_json.specs.Digits.{has_128_bits, is_plain_number, integer_data}
use Rattle.px_forms.specs.Form.{literal_in}
use Rattle.px_forms.specs.Written.{bare, typed, number_data, literal_data}
use Rattle.px_forms.specs.declared.literal.LiteralType.{LiteralType}
use Rattle.px_forms.specs.declared.literal.LiteralType.TheVariants as type

-- a number that its type holds
pub number_written : (k j : ValueType) (z : ℤ) (d e : Data) → k ≡ j → InRange j z → d ≡ number (of_integer z) → e ≡ typed (type.Value k) d → Some e ≡ number_data k z
number_written k j z d e same inside is made = rw (made, is, same, (holds_decides j z).1 inside) refl

-- 128 bits hold what an `i128` is
pub bits_of_wide : (z : ℤ) → FitsSigned w128 z → has_128_bits z ≡ true
bits_of_wide (pos n) f = lt-ltb n (2 ^ 127) f.sfits
bits_of_wide (negsuc n) f = lt-ltb n (2 ^ 127) f.sfits

-- 128 bits hold a literal of one of the two types that are no types of columns
pub int128_in : (t : LiteralType) (z y : ℤ) → t ≡ type.Int128 → y ≡ z → FitsSigned w128 z → Some (value.Int128 y) ≡ literal_in t z
int128_in t z y is same fits = rw (is, same, bits_of_wide z fits) refl

pub open_in : (t : LiteralType) (z y : ℤ) → t ≡ type.Int → y ≡ z → FitsSigned w128 z → Some (value.Int y) ≡ literal_in t z
open_in t z y is same fits = rw (is, same, bits_of_wide z fits) refl

pub int128_written : (z y : ℤ) (d e : Data) → y ≡ z → FitsSigned w128 z → d ≡ integer_data y → e ≡ typed type.Int128 d → Some e ≡ literal_data (value.Int128 z)
int128_written z y d e same fits is made = rw (made, is, same, bits_of_wide z fits) refl

-- an integer is written as a number exactly where JSON has it
shown : (z : ℤ) (b : Bool) → is_some (as_number (cond b (number (of_integer z)) (string (signed_decimal z)))) ≡ b
shown z true = refl
shown z false = refl

plain_of_number : (z : ℤ) (d : Data) (b : Bool) → d ≡ integer_data z → is_some (as_number d) ≡ b → is_plain_number z ≡ b
plain_of_number z d b is e = sym (shown z (is_plain_number z)) ∙ ap (λ (x : Data). is_some (as_number x)) (sym is) ∙ e

pub open_bare : (z y : ℤ) (d e : Data) → y ≡ z → FitsSigned w128 z → d ≡ integer_data y → is_some (as_number d) ≡ true → e ≡ bare d → Some e ≡ literal_data (value.Int z)
open_bare z y d e same fits is shows made =
    let wide : d ≡ integer_data z = is ∙ ap integer_data same in
    rw (made, wide, bits_of_wide z fits, plain_of_number z d true wide shows) refl

pub open_typed : (z y : ℤ) (d e : Data) → y ≡ z → FitsSigned w128 z → d ≡ integer_data y → is_some (as_number d) ≡ false → e ≡ typed type.Int d → Some e ≡ literal_data (value.Int z)
open_typed z y d e same fits is shows made =
    let wide : d ≡ integer_data z = is ∙ ap integer_data same in
    rw (made, wide, bits_of_wide z fits, plain_of_number z d false wide shows) refl

pub series_written : (c : Contents) (d e : Data) → length c.values.rows < 2 ^ 32 → Each1 (IsRowOf c.values.value_type) c.values.rows → d ≡ column_data c → e ≡ single_member (codes "series") d → Some e ≡ literal_data (value.Series c)
series_written c d e short rows is made = rw (made, is, column-is_column c.values (record { below_limit = short; typed = rows })) refl
