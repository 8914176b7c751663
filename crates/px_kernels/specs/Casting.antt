-- What the parts of a cast give.
use Rattle.std.specs.Prelude.{◌≡◌, Bool, false, not, ◌&&◌, ◌||◌, cond, ℤ, pos, List, ◌∷◌, map}
use Rattle.std.specs.Simd.Lanes.{zip2}
use Rattle.px_semantics.specs.Casts.{cast_row, any_lost}
use Rattle.px_semantics.specs.Rows.{Datum, Row}
use Rattle.px_types.specs.ValueTypes.{holds}
use Rattle.px_types.specs.declared.value_type.ValueType.{ValueType}

-- the number where the type holds it, else 0
abbrev pub number_in_range : ValueType → ℤ → ℤ
number_in_range k z = cond (holds k z) z (pos 0)

-- the bits of numbers that the type holds
abbrev pub bits_in_range : ValueType → List Bool → List ℤ → List Bool
bits_in_range k valid numbers = zip2 (λ v h. v && h) valid (map (holds k) numbers)

-- a bit of the first is not set in the second
abbrev pub any_bit_lost : List Bool → List Bool → Bool
any_bit_lost (u ∷ us) (v ∷ vs) = (u && not v) || any_bit_lost us vs
any_bit_lost _ _ = false

-- f casts the rows to the others, and loses none
abbrev pub CastsAll : (Datum → Row) → List Row → List Row → Type 0
CastsAll f rows others = (others ≡ map (cast_row f) rows) × (any_lost f rows ≡ false)
