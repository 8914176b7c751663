-- Literals: their values as rows, and the literals of values.
use Rattle.std.specs.Prelude.{ℤ, pos, nat_abs, Bool, true, false, [], ◌∷◌, if◌then◌else◌, Option, Some, None, option_map}
use Rattle.px_types.specs.declared.value_type.ValueType.{ValueType}
use Rattle.px_types.specs.declared.value_type.ValueType.TheVariants as value_type
use Rattle.px_types.specs.Classes.{is_boolean_or_integer}
use Rattle.px_semantics.specs.Rows.{Datum, BooleanValue, IntegerValue, Row, TypedRows}
use Rattle.px_expr.specs.declared.literal.LiteralValue.{LiteralValue}
use Rattle.px_expr.specs.declared.literal.LiteralValue.TheVariants as lit

-- the value of a Boolean literal or of one of an integer type, with its type
abbrev pub scalar_of : LiteralValue → Option (ValueType × Datum)
scalar_of (lit.Boolean t) = Some (value_type.Boolean, BooleanValue t)
scalar_of (lit.UInt8 n) = Some (value_type.UInt8, IntegerValue (pos n))
scalar_of (lit.UInt16 n) = Some (value_type.UInt16, IntegerValue (pos n))
scalar_of (lit.UInt32 n) = Some (value_type.UInt32, IntegerValue (pos n))
scalar_of (lit.UInt64 n) = Some (value_type.UInt64, IntegerValue (pos n))
scalar_of (lit.Int8 z) = Some (value_type.Int8, IntegerValue z)
scalar_of (lit.Int16 z) = Some (value_type.Int16, IntegerValue z)
scalar_of (lit.Int32 z) = Some (value_type.Int32, IntegerValue z)
scalar_of (lit.Int64 z) = Some (value_type.Int64, IntegerValue z)
scalar_of _ = None

-- one row of a type
abbrev pub one_row : ValueType → Row → TypedRows
one_row k row = record { value_type = k; rows = row ∷ [] }

-- what a literal means: one row that holds its value, or the series
-- core language only: no texts, bytes, ranges or integers of 128 bits, and series of Booleans and of integers alone
abbrev pub literal_rows : LiteralValue → Option TypedRows
literal_rows lit.Null = Some (one_row value_type.Null None)
literal_rows (lit.Series c) = if is_boolean_or_integer c.values.value_type then Some c.values else None
literal_rows v = option_map (λ s. one_row s.0 (Some s.1)) (scalar_of v)

-- the literal of an integer type with this value
abbrev pub literal_of : ValueType → ℤ → LiteralValue
literal_of value_type.UInt8 z = lit.UInt8 (nat_abs z)
literal_of value_type.UInt16 z = lit.UInt16 (nat_abs z)
literal_of value_type.UInt32 z = lit.UInt32 (nat_abs z)
literal_of value_type.UInt64 z = lit.UInt64 (nat_abs z)
literal_of value_type.Int8 z = lit.Int8 z
literal_of value_type.Int16 z = lit.Int16 z
literal_of value_type.Int32 z = lit.Int32 z
literal_of value_type.Int64 z = lit.Int64 z
literal_of _ z = lit.Int z

-- the literal of a row of a type
abbrev pub row_literal : ValueType → Row → LiteralValue
row_literal k (Some (BooleanValue t)) = lit.Boolean t
row_literal k (Some (IntegerValue z)) = literal_of k z
row_literal k _ = lit.Null

-- whether the literal stands for one value
abbrev pub is_scalar : LiteralValue → Bool
is_scalar (lit.Series c) = false
is_scalar (lit.Range low high dtype) = false
is_scalar _ = true
