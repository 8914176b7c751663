-- Looking into a value for the shapes that forms use.
use Rattle.std.specs.Prelude.{ℕ, ℤ, ◌==◌, Bool, List, [], ◌∷◌, if◌then◌else◌, Option, Some, None, option_and_then, option_map}
use Rattle.serde_json.specs.Data.{Data, object, Items, no_items, item, no_members, member}
use Rattle.serde_json.specs.Find.{get, as_array, as_number, as_integer}
use Rattle.serde_json.specs.Events.{members_len}
use Rattle.px_types.specs.ValueTypes.{holds}
use Rattle.px_types.specs.declared.value_type.ValueType.{ValueType}

infixl 10 ◌>>=◌
-- what f gives of the value, if there is one
abbrev pub ◌>>=◌ : {A B : Type 0} → Option A → (A → Option B) → Option B
o >>= f = option_and_then f o

-- the answer, where the test is true
abbrev pub only_if : {A : Type 0} → Bool → Option A → Option A
only_if b o = if b then o else None

-- the name and the value of an object's one member
abbrev pub only_member : Data → Option (List ℕ × Data)
only_member (object (member k d no_members)) = Some (k, d)
only_member _ = None

-- how many members an object has
abbrev pub member_count : Data → ℕ
member_count (object ms) = members_len ms
member_count _ = 0

-- the values at two keys of an object with exactly these keys
abbrev pub two_fields : List ℕ → List ℕ → Data → Option (Data × Data)
two_fields a b d = only_if (member_count d == 2) (do
  x ← get a d
  y ← get b d
  Some (x, y))

-- the values at three keys of an object with exactly these keys
abbrev pub three_fields : List ℕ → List ℕ → List ℕ → Data → Option (Data × Data × Data)
three_fields a b c d = only_if (member_count d == 3) (do
  x ← get a d
  y ← get b d
  z ← get c d
  Some (x, y, z))

-- the lists at two keys of an object with exactly these keys
abbrev pub two_lists : List ℕ → List ℕ → Data → Option (Items × Items)
two_lists a b d = do
  p ← two_fields a b d
  xs ← as_array p.0
  ys ← as_array p.1
  Some (xs, ys)

-- an integer that is no float
abbrev pub integer_of : Data → Option ℤ
integer_of d = option_and_then as_integer (as_number d)

-- the number, where the integer type holds it
abbrev pub if_in_range : ValueType → ℤ → Option ℤ
if_in_range value_type z = only_if (holds value_type z) (Some z)

-- an integer of the type
abbrev pub number_in : ValueType → Data → Option ℤ
number_in value_type d = option_and_then (if_in_range value_type) (integer_of d)

-- all of them, or none
abbrev pub all_of : {A : Type 0} → List (Option A) → Option (List A)
all_of [] = Some []
all_of (None ∷ os) = None
all_of (Some a ∷ os) = option_map (λ as'. a ∷ as') (all_of os)

-- what f reads of each item, where it reads all of them
abbrev pub every : {A : Type 0} → (Data → Option A) → Items → Option (List A)
every f no_items = Some []
every f (item d ds) = do
  a ← f d
  as' ← every f ds
  Some (a ∷ as')
