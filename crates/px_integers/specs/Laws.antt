-- Laws of floor division.
use Rattle.std.specs.Prelude.{◌≡◌, ◌≢◌, ℤ, pos}
use Rattle.px_semantics.specs.Arithmetic.{floor_quotient, IsFloorQuotient}

abbrev pub FloorQuotientIsOne : Type 0
FloorQuotientIsOne = (a b : ℤ) → b ≢ pos 0 → IsFloorQuotient a b (floor_quotient a b)

abbrev pub FloorQuotientIsTheOnlyOne : Type 0
FloorQuotientIsTheOnlyOne = (a b q : ℤ) → IsFloorQuotient a b q → q ≡ floor_quotient a b
