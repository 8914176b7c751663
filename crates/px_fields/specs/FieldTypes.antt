-- Types that are made from the types of fields. A function reads fields; there is at least one.
use Rattle.std.specs.Prelude.{List, [], ◌∷◌, map, Bool, true, false, Option, Some, None, option_map, option_and_then, slice_get}
use Rattle.std.specs.List.{fold}
use Rattle.px_types.specs.declared.dtype.DataType.{DataType}
use Rattle.px_types.specs.declared.dtype.DataType.TheVariants as dtype
use Rattle.px_types.specs.declared.dtype.Field.{Field}
use Rattle.px_types.specs.declared.type_parts.UnknownKind.TheVariants as unknowns
use Rattle.px_types.specs.Supertypes.{common_type, element_of, list_of}
use Rattle.px_fields.specs.TypeChanges.{or_type, inner_of, wider_sum, concrete}

-- the first field
abbrev pub first : List Field → Field
first [] = record { name = []; dtype = dtype.Null }
first (f ∷ fs) = f

-- the type of which nothing is known
abbrev pub unknown : DataType
unknown = dtype.Unknown unknowns.Any

-- the type of the elements of a list or an array, else an unknown one
abbrev pub element_or_unknown : DataType → DataType
element_or_unknown d = or_type unknown (inner_of d)

-- the type of a sum
abbrev pub sum_of : DataType → DataType
sum_of d = or_type d (wider_sum d)

-- the common type of a type that may be missing and another one
abbrev pub common_with : Option DataType → DataType → Option DataType
common_with found d = option_and_then (λ c. common_type c d) found

-- the common type, from left to right
abbrev pub common_of_types : List DataType → Option DataType
common_of_types [] = None
common_of_types (d ∷ ds) = fold common_with (Some d) ds

-- a type, or what a list of it counts as
abbrev pub counted : Bool → DataType → DataType
counted true d = or_type d (element_of d)
counted false d = d

-- the common type of all fields, of a list its elements' type where that is asked
abbrev pub common_of_fields : Bool → List Field → Option DataType
common_of_fields by_elements fields = common_of_types (map (λ f. counted by_elements f.dtype) fields)

-- the common type of all fields, and no unknown one where a literal tells a type
abbrev pub supertype : List Field → Option DataType
supertype fields = option_and_then concrete (common_of_fields false fields)

-- the list of the common type of all elements
abbrev pub list_supertype : List Field → Option DataType
list_supertype fields = option_map list_of (common_of_fields true fields)

-- the type of the values that replace, or its common type with that of the default
abbrev pub common_or_first : Option Field → Option Field → Option DataType
common_or_first (Some new) (Some other) = common_type new.dtype other.dtype
common_or_first (Some new) None = Some new.dtype
common_or_first None _ = None

-- the type that is given, else that of the third field, or its common type with the fourth field's
abbrev pub replaced : Option DataType → List Field → Option DataType
replaced (Some d) fields = Some d
replaced None fields = common_or_first (slice_get fields 2) (slice_get fields 3)
