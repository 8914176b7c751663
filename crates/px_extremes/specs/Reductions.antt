-- An operation on all numbers of rows, and the first place of a value.
use Rattle.std.specs.Prelude.{ℕ, ℤ, List, Option, None, is_some}
use Rattle.std.specs.List.{filter, reduce, position}
use Rattle.std.specs.Option.{unwrap_or}
use Rattle.px_semantics.specs.Comparisons.{equal, both_pass}
use Rattle.px_semantics.specs.Rows.{Row, lift}

-- f of all rows that are values, from the first on; null where there is none
abbrev pub reduce_rows : (ℤ → ℤ → ℤ) → List Row → Row
reduce_rows f rows = unwrap_or (reduce (lift f) (filter is_some rows)) None

-- the first place of a row that equals the value; none for a null
abbrev pub first_place : Row → List Row → Option ℕ
first_place value rows = position (λ row. both_pass equal row value) rows
