-- Rows of columns: values that may be null, lengths that broadcast, and what is done row by row.
use Rattle.std.specs.Prelude.{T, ℕ, ◌==◌, ℤ, Bool, true, false, cond, List, [], ◌∷◌, length, get_or, replicate, Option, Some, None, option_map, option_and_then, is_none, IfSome}
use Rattle.std.specs.List.{count_by}
use Rattle.std.specs.Simd.Lanes.{zip2, Each1}
use Rattle.px_types.specs.declared.value_type.ValueType.{ValueType}
use Rattle.px_types.specs.declared.value_type.ValueType.TheVariants.{Boolean, String}
use Rattle.px_types.specs.Integers.{InRange}

-- a value that is not null: a Boolean, the bytes of a string, or an integer
pub data Datum : Type 0 where
  BooleanValue : Bool → Datum
  StringValue : List ℕ → Datum
  IntegerValue : ℤ → Datum

-- a row is a value, or null
abbrev pub Row : Type 0
Row = Option Datum

-- rows with their type
pub record TypedRows : Type 0 where
  pub value_type : ValueType
  pub rows : List Row

-- a column as contracts see it, however it is kept
pub record Contents : Type 0 where
  pub name : List ℕ
  pub values : TypedRows

-- the row of an integer, or of none
abbrev pub integer_row : Option ℤ → Row
integer_row (Some z) = Some (IntegerValue z)
integer_row None = None

-- whether the type is that of Booleans
abbrev pub is_boolean : ValueType → Bool
is_boolean Boolean = true
is_boolean _ = false

abbrev pub IsBoolean : ValueType → Type 0
IsBoolean k = T (is_boolean k)

-- whether the type is that of strings
abbrev pub is_string : ValueType → Bool
is_string String = true
is_string _ = false

abbrev pub IsString : ValueType → Type 0
IsString k = T (is_string k)

-- the row is null or a value of the type
abbrev pub IsRowOf : ValueType → Row → Type 0
IsRowOf value_type None = Unit {0}
IsRowOf value_type (Some (BooleanValue t)) = IsBoolean value_type
IsRowOf value_type (Some (StringValue bytes)) = IsString value_type
IsRowOf value_type (Some (IntegerValue z)) = InRange value_type z

-- the Boolean where the row is valid
abbrev pub boolean_entry : Bool → Bool → Row
boolean_entry t true = Some (BooleanValue t)
boolean_entry t false = None

-- the string where the row is valid
abbrev pub string_entry : Bool → List ℕ → Row
string_entry true bytes = Some (StringValue bytes)
string_entry false bytes = None

-- the rows of optional Booleans and of optional strings
abbrev pub boolean_row : Option Bool → Row
boolean_row (Some t) = Some (BooleanValue t)
boolean_row None = None

abbrev pub string_row : Option (List ℕ) → Row
string_row (Some bytes) = Some (StringValue bytes)
string_row None = None

-- the number where the row is valid
abbrev pub entry : Bool → ℤ → Row
entry true z = Some (IntegerValue z)
entry false z = None

-- f of a row of a number, null kept
abbrev pub on_integer : (ℤ → ℤ) → Row → Row
on_integer f (Some (IntegerValue x)) = Some (IntegerValue (f x))
on_integer f _ = None

-- f of two rows of numbers, null where a row is null
abbrev pub lift : (ℤ → ℤ → ℤ) → Row → Row → Row
lift f (Some (IntegerValue x)) (Some (IntegerValue y)) = Some (IntegerValue (f x y))
lift f _ _ = None

-- the length to which two lengths broadcast: they are equal, or one of them is one
abbrev pub broadcast_length : ℕ → ℕ → Option ℕ
broadcast_length m n = cond (m == n) (Some m) (cond (m == 1) (Some n) (cond (n == 1) (Some m) None))

-- the length to which any number of lengths broadcast; that of two and of three are its cases
abbrev pub broadcast_lengths : List ℕ → Option ℕ
broadcast_lengths [] = Some 1
broadcast_lengths (n ∷ []) = Some n
broadcast_lengths (m ∷ (n ∷ ns)) = option_and_then (broadcast_length m) (broadcast_lengths (n ∷ ns))

-- n times the row of a list of one row; a list of another length stays as it is
abbrev pub stretch : ℕ → List Row → List Row
stretch n rows = cond (length rows == 1) (replicate n (get_or rows 0 None)) rows

-- f row by row of two lists, each broadcast to their common length; none where they do not broadcast
abbrev pub elementwise : (Row → Row → Row) → List Row → List Row → Option (List Row)
elementwise f xs ys = option_map (λ n. zip2 f (stretch n xs) (stretch n ys)) (broadcast_length (length xs) (length ys))

-- f row by row of two columns, with rows of a type
abbrev pub broadcast_rows : ValueType → (Row → Row → Row) → List Row → List Row → Option TypedRows
broadcast_rows value_type f xs ys = option_map (λ rows. record { value_type = value_type; rows = rows }) (elementwise f xs ys)

-- the number of rows that are null
abbrev pub null_count : List Row → ℕ
null_count rows = count_by is_none rows

-- the numbers are all of the type
abbrev pub AllInRange : ValueType → List (Option ℤ) → Type 0
AllInRange value_type values = Each1 (λ value. IfSome value (InRange value_type)) values
