-- Counts of bits, as rows.
use Rattle.std.proofs.Common.{◌≡◌, ◌∙◌, ◌^◌, lit<, sym, subst, Bool, true, false, cond, ℤ, ℕ, pos, List, [], ◌∷◌, map, Some, None, is_some, refl, arith}
use Rattle.std.specs.Simd.Lanes.{zip2, Each1}
use Rattle.std.proofs.lemmas.Int.{ints}
use Rattle.px_types.specs.Integers.{into, InRange}
use Rattle.px_types.specs.declared.function.BitwiseFunction.{BitwiseFunction}
use Rattle.px_types.specs.declared.function.BitwiseFunction.TheVariants as bitwise
use Rattle.px_types.specs.declared.value_type.ValueType.{ValueType}
use Rattle.px_types.specs.declared.value_type.ValueType.TheVariants.{Boolean, UInt32}
use Rattle.px_types.proofs.Residues.{residue_within}
use Rattle.px_semantics.specs.Bits.{bit_count_row, count_integer, count_boolean}
use Rattle.px_semantics.specs.Logic.{is_true}
use Rattle.px_semantics.specs.Rows.{Row, BooleanValue, StringValue, IntegerValue, IsRowOf, entry}
use Rattle.px_arrays.proofs.Bitmaps.{maps}
use Rattle.px_kernels.proofs.CastRows.{each_inside}

counted_row : (f : BitwiseFunction) (k : ValueType) (v : Bool) (z : ℤ) → entry v (pos (count_integer f k z)) ≡ bit_count_row f k (entry v z)
counted_row f k true z = refl
counted_row f k false z = refl

-- the counts of integers, by the bitmap and the numbers
pub counted_entries : (f : BitwiseFunction) (k : ValueType) (us : List Bool) (zs : List ℤ) → zip2 entry us (map (λ z. pos (count_integer f k z)) zs) ≡ map (bit_count_row f k) (zip2 entry us zs)
counted_entries f k [] zs = refl
counted_entries f k (u ∷ us) [] = refl
counted_entries f k (u ∷ us) (z ∷ zs) = let here = counted_row f k u z in let rest = counted_entries f k us zs in cc

-- numbers that are their own residues are of 32 bits
pub counts_inside : (items : List ℕ) (counts : List ℤ) → map pos items ≡ counts → map (λ n. into UInt32 (pos n)) items ≡ counts → Each1 (InRange UInt32) (map pos items)
counts_inside items counts p q =
    subst (λ l. Each1 (InRange UInt32) l) (maps pos (into UInt32) items ∙ q ∙ sym p) (each_inside (InRange UInt32) (into UInt32) (λ z. residue_within z (2 ^ 32) (lit< tt)) (map pos items))

bit_up : (t : Bool) → InRange UInt32 (pos (cond t 1 0))
bit_up true = (omega (arith, ints), omega (arith, ints))
bit_up false = (omega (arith, ints), omega (arith, ints))

bit_down : (t : Bool) → InRange UInt32 (pos (cond t 0 1))
bit_down true = (omega (arith, ints), omega (arith, ints))
bit_down false = (omega (arith, ints), omega (arith, ints))

-- the count of one bit is a number of 32 bits
pub count_inside : (f : BitwiseFunction) (t : Bool) → InRange UInt32 (pos (count_boolean f t))
count_inside bitwise.CountOnes t = bit_up t
count_inside bitwise.LeadingOnes t = bit_up t
count_inside bitwise.TrailingOnes t = bit_up t
count_inside bitwise.CountZeros t = bit_down t
count_inside bitwise.LeadingZeros t = bit_down t
count_inside bitwise.TrailingZeros t = bit_down t
count_inside bitwise.And t = bit_up false
count_inside bitwise.Or t = bit_up false
count_inside bitwise.Xor t = bit_up false

boolean_counted : (f : BitwiseFunction) (row : Row) → IsRowOf Boolean row → entry (is_some row) (pos (count_boolean f (is_true row))) ≡ bit_count_row f Boolean row
boolean_counted f (Some (BooleanValue true)) h = refl
boolean_counted f (Some (BooleanValue false)) h = refl
boolean_counted f (Some (StringValue s)) h = absurd h
boolean_counted f (Some (IntegerValue z)) h = absurd h
boolean_counted f None h = refl

-- the counts of Booleans, by their two bitmaps
pub boolean_counts : (f : BitwiseFunction) (rows : List Row) → Each1 (IsRowOf Boolean) rows
    → zip2 entry (map is_some rows) (map (λ t. pos (count_boolean f t)) (map is_true rows)) ≡ map (bit_count_row f Boolean) rows
boolean_counts f [] h = refl
boolean_counts f (row ∷ rows) h = let here = boolean_counted f row h.0 in let rest = boolean_counts f rows h.1 in cc
