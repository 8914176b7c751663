-- The better of two rows, by a test of which row beats the other.
use Rattle.std.specs.Prelude.{Bool, cond, Some, None}
use Rattle.px_semantics.specs.Comparisons.{less, both_pass}
use Rattle.px_semantics.specs.Rows.{Row}

-- the first of two rows, unless the second beats it or the first is null
abbrev pub better : (Row → Row → Bool) → Row → Row → Row
better beats None y = y
better beats (Some x) y = cond (beats y (Some x)) y (Some x)

-- whether a row is a value that is less than another, and whether it is a greater one; false where one is null
abbrev pub is_less : Row → Row → Bool
is_less x y = both_pass less x y

abbrev pub is_greater : Row → Row → Bool
is_greater x y = both_pass less y x

-- the lesser and the greater of two rows, the first where they are equal; the other where one is null
abbrev pub lesser : Row → Row → Row
lesser x y = better is_less x y

abbrev pub greater : Row → Row → Row
greater x y = better is_greater x y
