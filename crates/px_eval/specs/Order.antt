-- The order in which the places of an arena are evaluated.
use Rattle.std.specs.Prelude.{◌≡◌, ◌⊎◌, ℕ, ◌+◌, ◌≤◌, List, [], ◌∷◌, length, take, slice_get, get_or, Option, Some, None, IsSome}
use Rattle.px_arena.specs.declared.node.AExpr.{AExpr}
use Rattle.px_arena.specs.Denotes.{IsIn, Reaches, inputs_of}

-- the position up to which the rows of the place are needed, where it has been placed
abbrev pub last_reader : List (Option ℕ) → ℕ → Option ℕ
last_reader needed n = get_or needed n None

-- the rows of the place are needed at the position
abbrev pub IsNeeded : List (Option ℕ) → ℕ → ℕ → Type 0
IsNeeded needed n position = (last : ℕ) × (last_reader needed n ≡ Some last) × (position ≤ last)

-- how many places are not placed
abbrev pub left_out : List (Option ℕ) → ℕ
left_out [] = 0
left_out (None ∷ needed) = left_out needed + 1
left_out (Some last ∷ needed) = left_out needed

-- the places come each once and after their inputs, whose rows are needed where they are read
pub record IsOrder (items : List AExpr) (order : List ℕ) (needed : List (Option ℕ)) : Type 0 where
  pub same_length : length needed ≡ length items
  pub placed : (n : ℕ) → IsSome (last_reader needed n) → IsIn n order
  pub known : (n : ℕ) → IsIn n order → IsSome (last_reader needed n)
  pub apart : (k n : ℕ) → slice_get order k ≡ Some n → IsIn n (take k order) → ⊥
  pub inputs : (k n m : ℕ) (x : AExpr) → slice_get order k ≡ Some n → slice_get items n ≡ Some x → IsIn m (inputs_of x) → IsIn m (take k order) × IsNeeded needed m k
  pub once : length order + left_out needed ≡ length items

-- the place at the position reads the rows of m
pub record IsReader (items : List AExpr) (order : List ℕ) (position m : ℕ) : Type 0 where
  pub place : ℕ
  pub node : AExpr
  pub at : slice_get order position ≡ Some place
  pub holds : slice_get items place ≡ Some node
  pub reads : IsIn m (inputs_of node)

-- up to where rows are needed a place reads them, or they are its own, which no place reads so far
abbrev pub AreRead : List AExpr → List ℕ → List (Option ℕ) → Type 0
AreRead items order needed = (m last : ℕ) → last_reader needed m ≡ Some last → (slice_get order last ≡ Some m) ⊎ IsReader items order last m

-- of these places some that were placed are needed up to this position now, and the others as they were
pub record Raised (position : ℕ) (ns : List ℕ) (old new : List (Option ℕ)) : Type 0 where
  pub same_length : length new ≡ length old
  pub same : (n : ℕ) → (last_reader new n ≡ last_reader old n) ⊎ (IsIn n ns × IsSome (last_reader old n) × (last_reader new n ≡ Some position))

-- what was placed stays
abbrev pub Stays : List (Option ℕ) → List (Option ℕ) → Type 0
Stays old new = (n : ℕ) → IsSome (last_reader old n) → IsSome (last_reader new n)

-- only places that n reaches were placed
abbrev pub PlacesBelow : List AExpr → ℕ → List (Option ℕ) → List (Option ℕ) → Type 0
PlacesBelow items n old new = (p : ℕ) → last_reader old p ≡ None → IsSome (last_reader new p) → Reaches items n p
