-- The bits of values: how many there are of a kind, row by row, and bit by bit over all rows.
use Rattle.std.specs.Prelude.{ℕ, ℤ, pos, unsigned_abs, count_ones, Bool, cond, List, Some, None, is_some, map}
use Rattle.std.specs.Int.{Width, w8, w16, w32, w64, cast_unsigned, count_zeros, leading_zeros, leading_ones, trailing_zeros, trailing_ones}
use Rattle.std.specs.List.{filter, reduce}
use Rattle.std.specs.Option.{unwrap_or}
use Rattle.px_types.specs.declared.function.BitwiseFunction.{BitwiseFunction}
use Rattle.px_types.specs.declared.function.BitwiseFunction.TheVariants as bitwise
use Rattle.px_types.specs.declared.operator.Operator.{Operator}
use Rattle.px_types.specs.declared.operator.Operator.TheVariants as op
use Rattle.px_types.specs.declared.value_type.ValueType.{ValueType}
use Rattle.px_types.specs.declared.value_type.ValueType.TheVariants.{UInt8, UInt16, UInt32, UInt64, Int8, Int16, Int32, Int64}
use Rattle.px_semantics.specs.Aggregates.{one_row}
use Rattle.px_semantics.specs.Logic.{logic_row}
use Rattle.px_semantics.specs.Rows.{BooleanValue, IntegerValue, Row, TypedRows}

-- the function counts the bits of each row
abbrev pub IsBitCount : BitwiseFunction → Type 0
IsBitCount bitwise.And = ⊥
IsBitCount bitwise.Or = ⊥
IsBitCount bitwise.Xor = ⊥
IsBitCount _ = Unit {0}

-- a count of the bits of a number of the width
abbrev pub count_bits : BitwiseFunction → Width → ℕ → ℕ
count_bits bitwise.CountOnes w n = count_ones n
count_bits bitwise.CountZeros w n = count_zeros w n
count_bits bitwise.LeadingOnes w n = leading_ones w n
count_bits bitwise.LeadingZeros w n = leading_zeros w n
count_bits bitwise.TrailingOnes w n = trailing_ones w n
count_bits bitwise.TrailingZeros w n = trailing_zeros w n
count_bits _ w n = 0

-- the same of an integer of a type, in two's complement
abbrev pub count_integer : BitwiseFunction → ValueType → ℤ → ℕ
count_integer f Int8 z = count_bits f w8 (cast_unsigned w8 z)
count_integer f Int16 z = count_bits f w16 (cast_unsigned w16 z)
count_integer f Int32 z = count_bits f w32 (cast_unsigned w32 z)
count_integer f Int64 z = count_bits f w64 (cast_unsigned w64 z)
count_integer f UInt8 z = count_bits f w8 (unsigned_abs z)
count_integer f UInt16 z = count_bits f w16 (unsigned_abs z)
count_integer f UInt32 z = count_bits f w32 (unsigned_abs z)
count_integer f UInt64 z = count_bits f w64 (unsigned_abs z)
count_integer f _ z = 0

-- the same of a Boolean, which has one bit
abbrev pub count_boolean : BitwiseFunction → Bool → ℕ
count_boolean bitwise.CountOnes t = cond t 1 0
count_boolean bitwise.LeadingOnes t = cond t 1 0
count_boolean bitwise.TrailingOnes t = cond t 1 0
count_boolean bitwise.CountZeros t = cond t 0 1
count_boolean bitwise.LeadingZeros t = cond t 0 1
count_boolean bitwise.TrailingZeros t = cond t 0 1
count_boolean _ t = 0

-- the count of a row's bits, null kept
abbrev pub bit_count_row : BitwiseFunction → ValueType → Row → Row
bit_count_row f value_type (Some (BooleanValue t)) = Some (IntegerValue (pos (count_boolean f t)))
bit_count_row f value_type (Some (IntegerValue z)) = Some (IntegerValue (pos (count_integer f value_type z)))
bit_count_row f value_type _ = None

-- the counts of a column's bits
abbrev pub bit_count_rows : BitwiseFunction → TypedRows → TypedRows
bit_count_rows f a = record { value_type = UInt32; rows = map (bit_count_row f a.value_type) a.rows }

-- the function reduces all rows
abbrev pub IsBitReduction : BitwiseFunction → Type 0
IsBitReduction bitwise.And = Unit {0}
IsBitReduction bitwise.Or = Unit {0}
IsBitReduction bitwise.Xor = Unit {0}
IsBitReduction _ = ⊥

-- the operator by which two rows are reduced
abbrev pub reduction_operator : BitwiseFunction → Operator
reduction_operator bitwise.And = op.And
reduction_operator bitwise.Or = op.Or
reduction_operator _ = op.Xor

-- the values of all rows, bit by bit; null where there is none
abbrev pub bit_reduce_row : BitwiseFunction → ValueType → List Row → Row
bit_reduce_row f value_type rows = unwrap_or (reduce (logic_row (reduction_operator f) value_type) (filter is_some rows)) None

abbrev pub bit_reduce_of : BitwiseFunction → TypedRows → TypedRows
bit_reduce_of f a = one_row a.value_type (bit_reduce_row f a.value_type a.rows)
