-- Fields by their names.
use Rattle.std.specs.Prelude.{ℕ, Bool, string_bytes, List, [], ◌∷◌, ◌++◌, map, take, Option, Some, None, Result, Ok, Err, if◌then◌else◌}
use Rattle.std.specs.List.{list_any}
use Rattle.std.specs.Str.{bytes_eq}
use Rattle.std.specs.declared.string.String.{String}
use Rattle.px_base.specs.declared.error.PlanError.{PlanError}
use Rattle.px_base.specs.declared.error.PlanError.TheVariants.{Duplicate}
use Rattle.px_types.specs.declared.dtype.DataType.{DataType}
use Rattle.px_types.specs.declared.dtype.Field.{Field}

abbrev pub names_of : List Field → List (List ℕ)
names_of fields = map (λ f. f.name) fields

-- a field as its name and its type
abbrev pub entry_of : Field → List ℕ × DataType
entry_of f = (f.name, f.dtype)

-- a name and a type as a field
abbrev pub field_named : {Y : Type 0} → String Y × DataType → Field
field_named entry = record { name = string_bytes entry.0; dtype = entry.1 }

-- the type of the first field of this name
abbrev pub dtype_at : List Field → List ℕ → Option DataType
dtype_at [] name = None
dtype_at (f ∷ fs) name = if bytes_eq name f.name then Some f.dtype else dtype_at fs name

-- the first name that is equal to one before it, or to one of `before`
abbrev pub first_repeated_after : List (List ℕ) → List (List ℕ) → Option (List ℕ)
first_repeated_after before [] = None
first_repeated_after before (name ∷ names) = if list_any (bytes_eq name) before then Some name else first_repeated_after (before ++ name ∷ []) names

-- the first name that is equal to one before it
abbrev pub first_repeated : List (List ℕ) → Option (List ℕ)
first_repeated names = first_repeated_after [] names

-- the name at this place is equal to one before it
abbrev pub is_repeated : List (List ℕ) → ℕ × List ℕ → Bool
is_repeated names place = list_any (bytes_eq place.1) (take place.0 names)

-- a value, unless a name comes twice
abbrev pub unless_repeated : {A : Type 0} → A → Option (List ℕ) → Result A PlanError
unless_repeated value None = Ok value
unless_repeated value (Some name) = Err (Duplicate name)

-- the fields, or the first name that is equal to one before it
abbrev pub distinct : List Field → Result (List Field) PlanError
distinct fields = unless_repeated fields (first_repeated (names_of fields))
