-- Rows selected by a mask.
use Rattle.std.specs.Prelude.{ℕ, Bool, cond, List, [], ◌∷◌, length, Option, option_map}
use Rattle.px_semantics.specs.Logic.{is_true}
use Rattle.px_semantics.specs.Rows.{Row, TypedRows, broadcast_lengths, stretch}

-- the first row where the mask is true, else the second
abbrev pub select_row : Bool → Row → Row → Row
select_row mask x y = cond mask x y

-- the length to which three lengths broadcast
abbrev pub broadcast_length_three : ℕ → ℕ → ℕ → Option ℕ
broadcast_length_three k m n = broadcast_lengths (k ∷ m ∷ n ∷ [])

-- row by row the first list's row where the mask is true, else the second's
abbrev pub select_all : List Row → List Row → List Row → List Row
select_all (m ∷ ms) (x ∷ xs) (y ∷ ys) = select_row (is_true m) x y ∷ select_all ms xs ys
select_all _ _ _ = []

-- two columns of one type by a mask, each broadcast to the common length of the three; none where they do not broadcast
unfoldable pub select_rows : TypedRows → TypedRows → TypedRows → Option TypedRows
select_rows mask a b =
    option_map (λ n. record { value_type = a.value_type; rows = select_all (stretch n mask.rows) (stretch n a.rows) (stretch n b.rows) })
    (broadcast_length_three (length mask.rows) (length a.rows) (length b.rows))
