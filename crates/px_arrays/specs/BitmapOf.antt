-- What words of bits stand for.
use Rattle.std.specs.Prelude.{◌≡◌, ℕ, ◌+◌, ◌/◌, ◌%◌, ◌≤◌, ◌<◌, ◌^◌, ◌==◌, ◌&&◌, Bool, false, List, map, length, get_or, Some}
use Rattle.std.specs.List.{range_with_len}
use Rattle.std.specs.Int.{bit_at}
use Rattle.std.specs.Simd.Lanes.{zip2}
use Rattle.px_semantics.specs.Rows.{Row, BooleanValue}

-- whether bit i of the words is set: bit i % 64 of word i / 64
unfoldable pub bit_of : List ℕ → ℕ → Bool
bit_of words i = bit_at (get_or words (i / 64) 0) (i % 64) == 1

-- the first n bits of the words
abbrev pub bits_of : List ℕ → ℕ → List Bool
bits_of words n = map (bit_of words) (range_with_len 0 n)

-- n bits, fewer than 2 ^ 32, stand in just the words that they need, and no bit past them is set
pub record FewWords (words : List ℕ) (n : ℕ) : Type 0 where
  pub below_limit : n < 2 ^ 32
  pub whole : length words ≡ (n + 63) / 64
  pub clear : (i : ℕ) → n ≤ i → bit_of words i ≡ false

-- two bitmaps of one length, where no bit is true that is not valid
pub record AreBitmaps (truth valid : List Bool) : Type 0 where
  pub same_length : length truth ≡ length valid
  pub within : zip2 (λ t v. t && v) truth valid ≡ truth

-- the row of a Boolean that is not null
abbrev pub non_null : Bool → Row
non_null flag = Some (BooleanValue flag)
