-- Bit operations on the numbers of the eight integer types, in two's complement.
use Rattle.std.specs.Prelude.{ℕ, ℤ, pos, unsigned_abs}
use Rattle.std.specs.Int.{cast_signed, cast_unsigned, int_bit_not, bit_not, w8, w16, w32, w64}
use Rattle.px_types.specs.declared.value_type.ValueType.{ValueType}
use Rattle.px_types.specs.declared.value_type.ValueType.TheVariants.{UInt8, UInt16, UInt32, UInt64, Int8, Int16, Int32, Int64}

-- f of the bits of two numbers of the type
abbrev pub bitwise : (ℕ → ℕ → ℕ) → ValueType → ℤ → ℤ → ℤ
bitwise f Int8 x y = cast_signed w8 (f (cast_unsigned w8 x) (cast_unsigned w8 y))
bitwise f Int16 x y = cast_signed w16 (f (cast_unsigned w16 x) (cast_unsigned w16 y))
bitwise f Int32 x y = cast_signed w32 (f (cast_unsigned w32 x) (cast_unsigned w32 y))
bitwise f Int64 x y = cast_signed w64 (f (cast_unsigned w64 x) (cast_unsigned w64 y))
bitwise f _ x y = pos (f (unsigned_abs x) (unsigned_abs y))

-- the complement of a number of the type
abbrev pub complement : ValueType → ℤ → ℤ
complement Int8 x = int_bit_not w8 x
complement Int16 x = int_bit_not w16 x
complement Int32 x = int_bit_not w32 x
complement Int64 x = int_bit_not w64 x
complement UInt8 x = pos (bit_not w8 (unsigned_abs x))
complement UInt16 x = pos (bit_not w16 (unsigned_abs x))
complement UInt32 x = pos (bit_not w32 (unsigned_abs x))
complement UInt64 x = pos (bit_not w64 (unsigned_abs x))
complement _ x = x
