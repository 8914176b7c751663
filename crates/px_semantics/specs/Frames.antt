-- Frames: columns with distinct names and one height.
use Rattle.std.specs.Prelude.{◌≡◌, ◌==◌, ℕ, Bool, true, false, List, [], ◌∷◌, map, length, Option, Some, None, Result, Ok, Err, if◌then◌else◌}
use Rattle.std.specs.List.{All, list_all}
use Rattle.std.specs.Str.{bytes_eq}
use Rattle.px_base.specs.declared.error.PlanError.{PlanError}
use Rattle.px_base.specs.declared.error.PlanError.TheVariants.{Duplicate, ShapeMismatch}
use Rattle.px_semantics.specs.Columns.{IsColumn}
use Rattle.px_semantics.specs.Rows.{Contents}
use Rattle.px_types.specs.Schemas.{first_repeated}

-- the first column of this name
abbrev pub column_named : List Contents → List ℕ → Option Contents
column_named [] name = None
column_named (c ∷ cs) name = if bytes_eq c.name name then Some c else column_named cs name

abbrev pub column_names : List Contents → List (List ℕ)
column_names columns = map (λ (c : Contents). c.name) columns

abbrev pub heights : List Contents → List ℕ
heights columns = map (λ (c : Contents). length c.values.rows) columns

-- whether each number is the first one
abbrev pub are_equal : List ℕ → Bool
are_equal [] = true
are_equal (n ∷ ns) = list_all (λ m. m == n) ns

-- the columns, unless a name comes twice or two heights differ
abbrev pub frame_or_refusal : List Contents → Option (List ℕ) → Bool → Result (List Contents) PlanError
frame_or_refusal columns (Some name) even = Err (Duplicate name)
frame_or_refusal columns None false = Err ShapeMismatch
frame_or_refusal columns None true = Ok columns

-- the columns as a frame, or the first name that is equal to one before it, or else uneven heights
abbrev pub frame_of : List Contents → Result (List Contents) PlanError
frame_of columns = frame_or_refusal columns (first_repeated (column_names columns)) (are_equal (heights columns))

-- columns with distinct names and one height
pub record IsFrame (frame : List Contents) : Type 0 where
  pub frame_or_refusal : frame_of frame ≡ Ok frame
  pub columns : All (λ (c : Contents). IsColumn c.values) frame

-- the height of a frame: 0 without columns
abbrev pub height_of : List Contents → ℕ
height_of [] = 0
height_of (c ∷ cs) = length c.values.rows
