-- Elements at given positions.
use Rattle.std.specs.Prelude.{ℕ, Bool, List, length, map, get_or, Option, Some}
use Rattle.std.specs.Option.{unwrap_or}
use Rattle.std.specs.List.{items_where_true, range_with_len}
use Rattle.px_semantics.specs.Rows.{Row, IntegerValue}
use Rattle.px_semantics.specs.Gathers.{position_of}

-- the element at each position, and d at a position past the end
abbrev pub at_positions : {A : Type 0} → A → List A → List ℕ → List A
at_positions d xs positions = map (λ position. get_or xs position d) positions

-- the positions of the bits that are set, in order
abbrev pub set_positions : List Bool → List ℕ
set_positions bits = items_where_true bits (range_with_len 0 (length bits))

-- the position among n rows for an index: past the end for a null, and none where it is outside
abbrev pub position_at : ℕ → Row → Option ℕ
position_at n (Some (IntegerValue index)) = position_of n index
position_at n _ = Some n

-- the same, past the end where it is outside
abbrev pub position_or_end : ℕ → Row → ℕ
position_or_end n row = unwrap_or (position_at n row) n
