-- Integers of up to 128 bits, also as texts of their decimal digits.
use Rattle.std.specs.Prelude.{ℕ, ◌^◌, ℤ, pos, negsuc, nat_lt, Bool, ◌&&◌, List, bytes_eq, if◌then◌else◌, Option, Some}
use Rattle.std.specs.Fmt.{signed_decimal}
use Rattle.std.specs.Str.Parse.{signed_digits_value}
use Rattle.serde_json.specs.Data.{Data, string, number}
use Rattle.serde_json.specs.Find.{of_integer}
use Rattle.px_json.specs.JsonAccess.{only_if, integer_of}

-- 128 bits with a sign hold the number
abbrev pub has_128_bits : ℤ → Bool
has_128_bits (pos n) = nat_lt n (2 ^ 127)
has_128_bits (negsuc n) = nat_lt n (2 ^ 127)

-- the number, if the text has its decimal digits: a `-` in front where it is negative, no leading zero and no `-0`
abbrev pub if_digits_of : ℤ → List ℕ → Option ℤ
if_digits_of z text = only_if (has_128_bits z && bytes_eq (signed_decimal z) text) (Some z)

-- the number whose decimal digits the text has
abbrev pub integer_of_text : List ℕ → Option ℤ
integer_of_text text = if_digits_of (signed_digits_value 10 text) text

-- an integer, or the text of its decimal digits
abbrev pub integer : Data → Option ℤ
integer (string text) = integer_of_text text
integer d = integer_of d

-- a number of JSON that is no float: one from -2^63 up to 2^64 - 1
abbrev pub is_plain_number : ℤ → Bool
is_plain_number (pos n) = nat_lt n (2 ^ 64)
is_plain_number (negsuc n) = nat_lt n (2 ^ 63)

-- an integer as a number where JSON has it, else as the text of its decimal digits
abbrev pub integer_data : ℤ → Data
integer_data z = if is_plain_number z then number (of_integer z) else string (signed_decimal z)
