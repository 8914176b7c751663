-- Casts of rows that keep each value, and the numbers that a type holds.
use Rattle.std.proofs.Common.{◌≡◌, ◌∙◌, ◌^◌, Bool, true, false, cond, ◌||◌, ℤ, ℕ, pos, negsuc, ◌≤ℤ◌, ◌<ℤ◌, List, [], ◌∷◌, map, ap, sym, refl, Some, None, is_none, inr, arith}
use Rattle.std.proofs.Math.Nat.{mod-eq_of_lt}
use Rattle.std.specs.Int.{w8, w16, w32, w64, int_rem_euclid}
use Rattle.std.specs.Bool.{Decides}
use Rattle.std.specs.Simd.Lanes.{Each1}
use Rattle.std.proofs.lemmas.Int.{ints, int_wrap_fits}
use Rattle.px_semantics.specs.Casts.{in_type, as_integer, cast_value, cast_row, is_lost, any_lost, cast_list, IsScalar, HasCast}
use Rattle.px_types.specs.Integers.{into, InRange, IsInteger}
use Rattle.px_types.specs.ValueTypes.{holds, dtype_of, value_type_of}
use Rattle.px_semantics.specs.Rows.{Datum, BooleanValue, StringValue, IntegerValue, Row, IsRowOf, IsBoolean, IsString}
use Rattle.px_types.specs.declared.dtype.DataType.{out-DataType}
use Rattle.px_types.specs.declared.type_parts.CastOptions.{CastOptions}
use Rattle.px_types.specs.declared.type_parts.CastOptions.TheVariants.{Strict, NonStrict, Overflowing}
use Rattle.px_types.specs.declared.value_type.ValueType.{ValueType}
use Rattle.px_types.specs.declared.value_type.ValueType.TheVariants as value_type

-- the test is exact
pub holds_decides : (k : ValueType) (z : ℤ) → Decides (holds k z) (InRange k z)
unfolding holds
holds_decides value_type.Null z = (λ e. cc, λ h. absurd h)
holds_decides value_type.Boolean z = (λ e. cc, λ h. absurd h)
holds_decides value_type.String z = (λ e. cc, λ h. absurd h)
holds_decides value_type.UInt8 z = (λ e. grind (arith, ints), λ h. grind (arith, ints, h))
holds_decides value_type.UInt16 z = (λ e. grind (arith, ints), λ h. grind (arith, ints, h))
holds_decides value_type.UInt32 z = (λ e. grind (arith, ints), λ h. grind (arith, ints, h))
holds_decides value_type.UInt64 z = (λ e. grind (arith, ints), λ h. grind (arith, ints, h))
holds_decides value_type.Int8 z = (λ e. grind (arith, ints), λ h. grind (arith, ints, h))
holds_decides value_type.Int16 z = (λ e. grind (arith, ints), λ h. grind (arith, ints, h))
holds_decides value_type.Int32 z = (λ e. grind (arith, ints), λ h. grind (arith, ints, h))
holds_decides value_type.Int64 z = (λ e. grind (arith, ints), λ h. grind (arith, ints, h))

residue_keeps : (n : ℕ) (z : ℤ) → (pos 0 ≤ℤ z) × (z <ℤ pos n) → int_rem_euclid z (pos n) ≡ z
residue_keeps n (pos a) h = ap pos (mod-eq_of_lt (omega (arith, ints)))
residue_keeps n (negsuc a) h = absurd (omega (arith, ints))

-- a number of the type is its own residue
pub into_keeps : (k : ValueType) (z : ℤ) → InRange k z → into k z ≡ z
into_keeps value_type.Null z h = absurd h
into_keeps value_type.Boolean z h = absurd h
into_keeps value_type.String z h = absurd h
into_keeps value_type.UInt8 z h = residue_keeps (2 ^ 8) z h
into_keeps value_type.UInt16 z h = residue_keeps (2 ^ 16) z h
into_keeps value_type.UInt32 z h = residue_keeps (2 ^ 32) z h
into_keeps value_type.UInt64 z h = residue_keeps (2 ^ 64) z h
into_keeps value_type.Int8 z h = int_wrap_fits w8 z h
into_keeps value_type.Int16 z h = int_wrap_fits w16 z h
into_keeps value_type.Int32 z h = int_wrap_fits w32 z h
into_keeps value_type.Int64 z h = int_wrap_fits w64 z h

-- a type that has numbers has 0 and 1
pub bit_in : (k : ValueType) (z : ℤ) (t : Bool) → InRange k z → InRange k (cond t (pos 1) (pos 0))
bit_in value_type.Null z t h = absurd h
bit_in value_type.Boolean z t h = absurd h
bit_in value_type.String z t h = absurd h
bit_in value_type.UInt8 z true h = (omega (arith, ints), omega (arith, ints))
bit_in value_type.UInt8 z false h = (omega (arith, ints), omega (arith, ints))
bit_in value_type.UInt16 z true h = (omega (arith, ints), omega (arith, ints))
bit_in value_type.UInt16 z false h = (omega (arith, ints), omega (arith, ints))
bit_in value_type.UInt32 z true h = (omega (arith, ints), omega (arith, ints))
bit_in value_type.UInt32 z false h = (omega (arith, ints), omega (arith, ints))
bit_in value_type.UInt64 z true h = (omega (arith, ints), omega (arith, ints))
bit_in value_type.UInt64 z false h = (omega (arith, ints), omega (arith, ints))
bit_in value_type.Int8 z true h = omega (arith, ints)
bit_in value_type.Int8 z false h = omega (arith, ints)
bit_in value_type.Int16 z true h = omega (arith, ints)
bit_in value_type.Int16 z false h = omega (arith, ints)
bit_in value_type.Int32 z true h = omega (arith, ints)
bit_in value_type.Int32 z false h = omega (arith, ints)
bit_in value_type.Int64 z true h = omega (arith, ints)
bit_in value_type.Int64 z false h = omega (arith, ints)

not_boolean : (k : ValueType) → IsInteger k → IsBoolean k → ⊥
not_boolean value_type.Null h b = h
not_boolean value_type.Boolean h b = h
not_boolean value_type.String h b = h
not_boolean value_type.UInt8 h b = b
not_boolean value_type.UInt16 h b = b
not_boolean value_type.UInt32 h b = b
not_boolean value_type.UInt64 h b = b
not_boolean value_type.Int8 h b = b
not_boolean value_type.Int16 h b = b
not_boolean value_type.Int32 h b = b
not_boolean value_type.Int64 h b = b

not_string : (k : ValueType) → IsInteger k → IsString k → ⊥
not_string value_type.Null h b = h
not_string value_type.Boolean h b = h
not_string value_type.String h b = h
not_string value_type.UInt8 h b = b
not_string value_type.UInt16 h b = b
not_string value_type.UInt32 h b = b
not_string value_type.UInt64 h b = b
not_string value_type.Int8 h b = b
not_string value_type.Int16 h b = b
not_string value_type.Int32 h b = b
not_string value_type.Int64 h b = b

in_type_same : (options : CastOptions) (k : ValueType) (z : ℤ) → InRange k z → in_type options k z ≡ Some (IntegerValue z)
in_type_same Strict k z h = ap (λ b. cond b (Some (IntegerValue z)) None) ((holds_decides k z).1 h)
in_type_same NonStrict k z h = ap (λ b. cond b (Some (IntegerValue z)) None) ((holds_decides k z).1 h)
in_type_same Overflowing k z h = ap (λ n. Some (IntegerValue n)) (into_keeps k z h)

integer_same : (options : CastOptions) (k : ValueType) (value : Datum) → IsInteger k → IsRowOf k (Some value) → as_integer options k value ≡ Some value
integer_same options k (BooleanValue t) i h = absurd (not_boolean k i h)
integer_same options k (StringValue s) i h = absurd (not_string k i h)
integer_same options k (IntegerValue z) i h = in_type_same options k z h

-- a value of the type stays
same_value : (options : CastOptions) (k : ValueType) (value : Datum) → IsRowOf k (Some value) → cast_value options k value ≡ Some value
same_value options value_type.Null (BooleanValue t) h = absurd h
same_value options value_type.Null (StringValue s) h = absurd h
same_value options value_type.Null (IntegerValue z) h = absurd h
same_value options value_type.Boolean (BooleanValue t) h = refl
same_value options value_type.Boolean (StringValue s) h = absurd h
same_value options value_type.Boolean (IntegerValue z) h = absurd h
same_value options value_type.String (BooleanValue t) h = absurd h
same_value options value_type.String (StringValue s) h = refl
same_value options value_type.String (IntegerValue z) h = absurd h
same_value options value_type.UInt8 value h = integer_same options value_type.UInt8 value tt h
same_value options value_type.UInt16 value h = integer_same options value_type.UInt16 value tt h
same_value options value_type.UInt32 value h = integer_same options value_type.UInt32 value tt h
same_value options value_type.UInt64 value h = integer_same options value_type.UInt64 value tt h
same_value options value_type.Int8 value h = integer_same options value_type.Int8 value tt h
same_value options value_type.Int16 value h = integer_same options value_type.Int16 value tt h
same_value options value_type.Int32 value h = integer_same options value_type.Int32 value tt h
same_value options value_type.Int64 value h = integer_same options value_type.Int64 value tt h

same_row : (options : CastOptions) (k : ValueType) (row : Row) → IsRowOf k row → cast_row (cast_value options k) row ≡ row
same_row options k (Some value) h = same_value options k value h
same_row options k None h = refl

same_kept : (options : CastOptions) (k : ValueType) (row : Row) → IsRowOf k row → is_lost (cast_value options k) row ≡ false
same_kept options k (Some value) h = ap is_none (same_value options k value h)
same_kept options k None h = refl

same_rows : (options : CastOptions) (k : ValueType) (rows : List Row) → Each1 (IsRowOf k) rows → map (cast_row (cast_value options k)) rows ≡ rows
same_rows options k [] h = refl
same_rows options k (row ∷ rows) h = let here = same_row options k row h.0 in let rest = same_rows options k rows h.1 in cc

or_false : (a b : Bool) → a ≡ false → b ≡ false → a || b ≡ false
or_false a b p q = ap (λ x. x || b) p ∙ q

-- a row that f does not lose, before others
pub none_lost : (f : Datum → Row) (row : Row) (rows : List Row) → is_lost f row ≡ false → any_lost f rows ≡ false → any_lost f (row ∷ rows) ≡ false
none_lost f row rows p q = or_false (is_lost f row) (any_lost f rows) p q

same_none_lost : (options : CastOptions) (k : ValueType) (rows : List Row) → Each1 (IsRowOf k) rows → any_lost (cast_value options k) rows ≡ false
same_none_lost options k [] h = refl
same_none_lost options k (row ∷ rows) h = none_lost (cast_value options k) row rows (same_kept options k row h.0) (same_none_lost options k rows h.1)

-- where none is lost, each cast gives the rows
pub cast_gives : (options : CastOptions) (f : Datum → Row) (rows : List Row) → any_lost f rows ≡ false → Some (map (cast_row f) rows) ≡ cast_list options f rows
cast_gives Strict f rows h = sym (ap (λ b. cond b None (Some (map (cast_row f) rows))) h)
cast_gives NonStrict f rows h = refl
cast_gives Overflowing f rows h = refl

-- rows of the type stay
pub same_gives : (options : CastOptions) (k : ValueType) (rows : List Row) → Each1 (IsRowOf k) rows → Some rows ≡ cast_list options (cast_value options k) rows
same_gives options k rows h = ap Some (sym (same_rows options k rows h)) ∙ cast_gives options (cast_value options k) rows (same_none_lost options k rows h)

-- scalar types are cast to one another
pub scalar_cast : (from to : ValueType) → IsScalar from → IsScalar to → HasCast from (value_type_of (dtype_of to))
unfolding out-DataType denote.Hole.Carrier.out
scalar_cast from value_type.Null p q = inr (inr (p, q))
scalar_cast from value_type.Boolean p q = inr (inr (p, q))
scalar_cast from value_type.String p q = inr (inr (p, q))
scalar_cast from value_type.UInt8 p q = inr (inr (p, q))
scalar_cast from value_type.UInt16 p q = inr (inr (p, q))
scalar_cast from value_type.UInt32 p q = inr (inr (p, q))
scalar_cast from value_type.UInt64 p q = inr (inr (p, q))
scalar_cast from value_type.Int8 p q = inr (inr (p, q))
scalar_cast from value_type.Int16 p q = inr (inr (p, q))
scalar_cast from value_type.Int32 p q = inr (inr (p, q))
scalar_cast from value_type.Int64 p q = inr (inr (p, q))
