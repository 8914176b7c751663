-- Folds of lists of rows, place by place.
use Rattle.std.specs.Prelude.{◌≡◌, ◌⊎◌, ℕ, List, [], ◌∷◌, length, None}
use Rattle.std.specs.List.{fold}
use Rattle.std.specs.Simd.Lanes.{zip2, Each1}
use Rattle.px_semantics.specs.Rows.{Row, stretch}

-- f of the rows so far and the rows of each list in turn, which is broadcast to n rows
abbrev pub fold_lists : (Row → Row → Row) → ℕ → List Row → List (List Row) → List Row
fold_lists f n start lists = fold (λ total rows. zip2 f total (stretch n rows)) start lists

-- f of rows in turn, from the first on
abbrev pub fold_row : (Row → Row → Row) → List Row → Row
fold_row f [] = None
fold_row f (x ∷ xs) = fold f x xs

-- each list has n rows, or one
abbrev pub FitLength : ℕ → List (List Row) → Type 0
FitLength n lists = Each1 (λ rows. (length rows ≡ 1) ⊎ (length rows ≡ n)) lists
