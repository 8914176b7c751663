-- Laws of common types and of names.
use Rattle.std.specs.Prelude.{◌≡◌, ℕ, List, Some, option_map}
use Rattle.std.specs.List.{find, enumerate_from}
use Rattle.px_types.specs.declared.value_type.ValueType.{ValueType}
use Rattle.px_types.specs.declared.value_type.ValueType.TheVariants as value
use Rattle.px_types.specs.declared.dtype.DataType.{DataType}
use Rattle.px_types.specs.declared.dtype.DataType.TheVariants as dtype
use Rattle.px_types.specs.Schemas.{first_repeated, is_repeated}
use Rattle.px_types.specs.Supertypes.{common_type}
use Rattle.px_types.specs.ValueTypes.{dtype_of, common, common_dtype}

-- the order of two value types does not matter
abbrev pub IsCommutative : Type 0
IsCommutative = ((a b : ValueType) → common_dtype a b ≡ common_dtype b a) × ((a b : ValueType) → common a b ≡ common b a)

-- a value type with itself is itself
abbrev pub IsIdempotent : Type 0
IsIdempotent = ((a : ValueType) → common_dtype a a ≡ Some (dtype_of a)) × ((a : ValueType) → common a a ≡ Some a)

-- `Null` with a value type is that type
abbrev pub HasNullAsNeutral : Type 0
HasNullAsNeutral = ((a : ValueType) → common_dtype value.Null a ≡ Some (dtype_of a)) × ((a : ValueType) → common value.Null a ≡ Some a)

-- the order of two types does not matter
abbrev pub SupertypeIsCommutative : Type 0
SupertypeIsCommutative = (a b : DataType) → common_type a b ≡ common_type b a

-- a type with itself is itself
abbrev pub SupertypeIsIdempotent : Type 0
SupertypeIsIdempotent = (a : DataType) → common_type a a ≡ Some a

-- `Null` with a type is that type
abbrev pub SupertypeHasNullAsNeutral : Type 0
SupertypeHasNullAsNeutral = (a : DataType) → common_type dtype.Null a ≡ Some a

-- the first repeated name is the name at the first place whose name is equal to one before it
abbrev pub FirstRepeatedIsFound : Type 0
FirstRepeatedIsFound = (names : List (List ℕ)) → first_repeated names ≡ option_map (λ place. place.1) (find (is_repeated names) (enumerate_from 0 names))
