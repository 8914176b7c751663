-- Casts of rows to another type.
use Rattle.std.specs.Prelude.{◌≡◌, Bool, false, not, cond, ◌||◌, ◌⊎◌, ℤ, pos, List, [], ◌∷◌, map, Option, Some, None, is_none, option_map, option_and_then}
use Rattle.px_semantics.specs.Arithmetic.{is_zero}
use Rattle.px_types.specs.Integers.{into, IsInteger}
use Rattle.px_semantics.specs.Rows.{Datum, BooleanValue, StringValue, IntegerValue, Row, TypedRows}
use Rattle.px_types.specs.ValueTypes.{holds, value_type_of}
use Rattle.px_types.specs.declared.dtype.DataType.{DataType}
use Rattle.px_types.specs.declared.type_parts.CastOptions.{CastOptions}
use Rattle.px_types.specs.declared.type_parts.CastOptions.TheVariants.{Strict, Overflowing}
use Rattle.px_types.specs.declared.value_type.ValueType.{ValueType}
use Rattle.px_types.specs.declared.value_type.ValueType.TheVariants as value_type

-- a number in an integer type; where the type lacks it, its residue if the cast may overflow, else null
abbrev pub in_type : CastOptions → ValueType → ℤ → Row
in_type Overflowing k z = Some (IntegerValue (into k z))
in_type options k z = cond (holds k z) (Some (IntegerValue z)) None

-- a value in an integer type: true is 1, false is 0
abbrev pub as_integer : CastOptions → ValueType → Datum → Row
as_integer options k (BooleanValue t) = Some (IntegerValue (cond t (pos 1) (pos 0)))
as_integer options k (IntegerValue z) = in_type options k z
as_integer options k (StringValue bytes) = None

-- a value as a Boolean: whether a number is not 0
abbrev pub as_boolean : Datum → Row
as_boolean (BooleanValue t) = Some (BooleanValue t)
as_boolean (IntegerValue z) = Some (BooleanValue (not (is_zero z)))
as_boolean (StringValue bytes) = None

abbrev pub as_string : Datum → Row
as_string (StringValue bytes) = Some (StringValue bytes)
as_string _ = None

-- a value in a type, null where the type lacks it
abbrev pub cast_value : CastOptions → ValueType → Datum → Row
cast_value options value_type.Null value = None
cast_value options value_type.Boolean value = as_boolean value
cast_value options value_type.String value = as_string value
cast_value options k value = as_integer options k value

-- null stays null
abbrev pub cast_row : (Datum → Row) → Row → Row
cast_row f row = option_and_then f row

-- a row is a value that is cast to null
abbrev pub is_lost : (Datum → Row) → Row → Bool
is_lost f (Some value) = is_none (f value)
is_lost f None = false

abbrev pub any_lost : (Datum → Row) → List Row → Bool
any_lost f [] = false
any_lost f (row ∷ rows) = is_lost f row || any_lost f rows

-- the rows that f casts; none where a strict cast loses one
abbrev pub cast_list : CastOptions → (Datum → Row) → List Row → Option (List Row)
cast_list Strict f rows = cond (any_lost f rows) None (Some (map (cast_row f) rows))
cast_list _ f rows = Some (map (cast_row f) rows)

-- a column in a type; none where a strict cast loses a value
unfoldable pub cast_rows : CastOptions → ValueType → TypedRows → Option TypedRows
cast_rows options k a = option_map (λ rows. record { value_type = k; rows = rows }) (cast_list options (cast_value options k) a.rows)

-- the same in a data type, where that is a value type
abbrev pub cast_to : CastOptions → DataType → TypedRows → Option TypedRows
cast_to options to a = option_and_then (λ k. cast_rows options k a) (value_type_of to)

-- the type is Null, Boolean or an integer type
abbrev pub IsScalar : ValueType → Type 0
IsScalar value_type.Null = Unit {0}
IsScalar value_type.Boolean = Unit {0}
IsScalar k = IsInteger k

-- a column of the first type may be cast to the second: it is the same type, or the first is Null, or both are Null, Boolean or an integer type
abbrev pub HasCast : ValueType → Option ValueType → Type 0
HasCast from None = ⊥
HasCast from (Some to) = (to ≡ from) ⊎ ((from ≡ value_type.Null) ⊎ (IsScalar from × IsScalar to))
