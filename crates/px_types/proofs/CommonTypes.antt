-- The common type of value types: its order does not matter, and a type with itself is itself.
use denote.Hole.Carrier.{out}
use Rattle.std.proofs.Common.{◌≡◌, ◌*◌, Some, option_map, refl, ap}
use Rattle.std.proofs.Math.Nat.{max_comm}
use Rattle.std.specs.Prelude.{option_and_then}
use Rattle.px_types.specs.declared.dtype.DataType.{out-DataType}
use Rattle.px_types.specs.declared.value_type.ValueType.{ValueType}
use Rattle.px_types.specs.declared.value_type.ValueType.TheVariants as value
use Rattle.px_types.specs.ValueTypes.{Family, Nulls, Booleans, Strings, Unsigned, Signed, family_of, type_of_family, common_family, dtype_of, value_type_of, common, common_dtype}

pub common_family-swaps : (a b : Family) → common_family a b ≡ common_family b a
common_family-swaps Nulls Nulls = refl
common_family-swaps Nulls Booleans = refl
common_family-swaps Nulls Strings = refl
common_family-swaps Nulls (Unsigned n) = refl
common_family-swaps Nulls (Signed n) = refl
common_family-swaps Booleans Nulls = refl
common_family-swaps Booleans Booleans = refl
common_family-swaps Booleans Strings = refl
common_family-swaps Booleans (Unsigned n) = refl
common_family-swaps Booleans (Signed n) = refl
common_family-swaps Strings Nulls = refl
common_family-swaps Strings Booleans = refl
common_family-swaps Strings Strings = refl
common_family-swaps Strings (Unsigned n) = refl
common_family-swaps Strings (Signed n) = refl
common_family-swaps (Unsigned m) Nulls = refl
common_family-swaps (Unsigned m) Booleans = refl
common_family-swaps (Unsigned m) Strings = refl
common_family-swaps (Unsigned m) (Unsigned n) = ap (λ k. Some (Unsigned k)) (max_comm m n)
common_family-swaps (Unsigned m) (Signed n) = ap (λ k. Some (Signed k)) (max_comm (2 * m) n)
common_family-swaps (Signed m) Nulls = refl
common_family-swaps (Signed m) Booleans = refl
common_family-swaps (Signed m) Strings = refl
common_family-swaps (Signed m) (Unsigned n) = ap (λ k. Some (Signed k)) (max_comm m (2 * n))
common_family-swaps (Signed m) (Signed n) = ap (λ k. Some (Signed k)) (max_comm m n)

pub common_dtype-swaps : (a b : ValueType) → common_dtype a b ≡ common_dtype b a
unfolding common_dtype
common_dtype-swaps a b = ap (option_map type_of_family) (common_family-swaps (family_of a) (family_of b))

pub common-swaps : (a b : ValueType) → common a b ≡ common b a
unfolding common
common-swaps a b = ap (option_and_then value_type_of) (common_dtype-swaps a b)

pub common_dtype-same : (a : ValueType) → common_dtype a a ≡ Some (dtype_of a)
unfolding common_dtype
common_dtype-same value.Null = refl
common_dtype-same value.Boolean = refl
common_dtype-same value.String = refl
common_dtype-same value.UInt8 = refl
common_dtype-same value.UInt16 = refl
common_dtype-same value.UInt32 = refl
common_dtype-same value.UInt64 = refl
common_dtype-same value.Int8 = refl
common_dtype-same value.Int16 = refl
common_dtype-same value.Int32 = refl
common_dtype-same value.Int64 = refl

-- a value type is the value type of the type of its name
pub value_type_of-dtype_of : (a : ValueType) → value_type_of (dtype_of a) ≡ Some a
unfolding out-DataType out
value_type_of-dtype_of value.Null = refl
value_type_of-dtype_of value.Boolean = refl
value_type_of-dtype_of value.String = refl
value_type_of-dtype_of value.UInt8 = refl
value_type_of-dtype_of value.UInt16 = refl
value_type_of-dtype_of value.UInt32 = refl
value_type_of-dtype_of value.UInt64 = refl
value_type_of-dtype_of value.Int8 = refl
value_type_of-dtype_of value.Int16 = refl
value_type_of-dtype_of value.Int32 = refl
value_type_of-dtype_of value.Int64 = refl

pub common-same : (a : ValueType) → common a a ≡ Some a
unfolding common
common-same a = rw (common_dtype-same a) (value_type_of-dtype_of a)

pub common_dtype-null : (a : ValueType) → common_dtype value.Null a ≡ Some (dtype_of a)
unfolding common_dtype
common_dtype-null value.Null = refl
common_dtype-null value.Boolean = refl
common_dtype-null value.String = refl
common_dtype-null value.UInt8 = refl
common_dtype-null value.UInt16 = refl
common_dtype-null value.UInt32 = refl
common_dtype-null value.UInt64 = refl
common_dtype-null value.Int8 = refl
common_dtype-null value.Int16 = refl
common_dtype-null value.Int32 = refl
common_dtype-null value.Int64 = refl

pub common-null : (a : ValueType) → common value.Null a ≡ Some a
unfolding common
common-null a = rw (common_dtype-null a) (value_type_of-dtype_of a)
