-- Integers in the eight integer types.
use Rattle.std.specs.Prelude.{T, ◌^◌, ℤ, pos, ◌≤ℤ◌, ◌<ℤ◌, FitsSigned}
use Rattle.std.specs.Int.{int_wrap, int_rem_euclid, w8, w16, w32, w64}
use Rattle.px_types.specs.Classes.{is_integer_value}
use Rattle.px_types.specs.declared.value_type.ValueType.{ValueType}
use Rattle.px_types.specs.declared.value_type.ValueType.TheVariants.{UInt8, UInt16, UInt32, UInt64, Int8, Int16, Int32, Int64}

-- the number of an integer type of w bits that is congruent to z modulo 2 ^ w
abbrev pub into : ValueType → ℤ → ℤ
into UInt8 z = int_rem_euclid z (pos (2 ^ 8))
into UInt16 z = int_rem_euclid z (pos (2 ^ 16))
into UInt32 z = int_rem_euclid z (pos (2 ^ 32))
into UInt64 z = int_rem_euclid z (pos (2 ^ 64))
into Int8 z = int_wrap w8 z
into Int16 z = int_wrap w16 z
into Int32 z = int_wrap w32 z
into Int64 z = int_wrap w64 z
into _ z = z

-- the number is one of the type's
abbrev pub InRange : ValueType → ℤ → Type 0
InRange UInt8 z = (pos 0 ≤ℤ z) × (z <ℤ pos (2 ^ 8))
InRange UInt16 z = (pos 0 ≤ℤ z) × (z <ℤ pos (2 ^ 16))
InRange UInt32 z = (pos 0 ≤ℤ z) × (z <ℤ pos (2 ^ 32))
InRange UInt64 z = (pos 0 ≤ℤ z) × (z <ℤ pos (2 ^ 64))
InRange Int8 z = FitsSigned w8 z
InRange Int16 z = FitsSigned w16 z
InRange Int32 z = FitsSigned w32 z
InRange Int64 z = FitsSigned w64 z
InRange _ z = ⊥

-- the type is an integer type
abbrev pub IsInteger : ValueType → Type 0
IsInteger k = T (is_integer_value k)
