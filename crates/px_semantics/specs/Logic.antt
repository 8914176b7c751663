-- Three-valued logic on rows of Booleans, and bit by bit on rows of numbers.
use Rattle.std.specs.Prelude.{ℕ, Bool, true, false, not, cond, ◌&&◌, ◌||◌, Option, Some, None, is_some, map, bit_and, bit_or, bit_xor}
use Rattle.px_types.specs.declared.operator.Operator.{Operator}
use Rattle.px_types.specs.declared.operator.Operator.TheVariants.{And, Or, Xor, LogicalAnd, LogicalOr}
use Rattle.px_types.specs.declared.value_type.ValueType.{ValueType}
use Rattle.px_types.specs.declared.value_type.ValueType.TheVariants.{Boolean}
use Rattle.px_semantics.specs.Bitwise.{bitwise, complement}
use Rattle.px_semantics.specs.Rows.{BooleanValue, Row, boolean_entry, TypedRows, lift, on_integer, broadcast_rows}

abbrev pub is_true : Row → Bool
is_true (Some (BooleanValue true)) = true
is_true _ = false

abbrev pub is_false : Row → Bool
is_false (Some (BooleanValue false)) = true
is_false _ = false

-- true, else false, else null
abbrev pub decided_row : Bool → Bool → Row
decided_row true other = Some (BooleanValue true)
decided_row false true = Some (BooleanValue false)
decided_row false false = None

-- true where both are true, false where one is false, else null
abbrev pub and_row : Row → Row → Row
and_row x y = decided_row (is_true x && is_true y) (is_false x || is_false y)

-- true where one is true, false where both are false, else null
abbrev pub or_row : Row → Row → Row
or_row x y = decided_row (is_true x || is_true y) (is_false x && is_false y)

-- whether just one of two is true, null where one is null
abbrev pub xor_row : Row → Row → Row
xor_row x y = boolean_entry (cond (is_true x) (not (is_true y)) (is_true y)) (is_some x && is_some y)

-- true and false exchanged, null kept
abbrev pub not_row : Row → Row
not_row x = decided_row (is_false x) (is_true x)

-- a logical operator on two Booleans
abbrev pub boolean_logic_row : Operator → Row → Row → Row
boolean_logic_row And x y = and_row x y
boolean_logic_row LogicalAnd x y = and_row x y
boolean_logic_row Or x y = or_row x y
boolean_logic_row LogicalOr x y = or_row x y
boolean_logic_row Xor x y = xor_row x y
boolean_logic_row _ x y = None

-- the operator is And, Or or Xor
abbrev pub IsLogic : Operator → Type 0
IsLogic And = Unit {0}
IsLogic Or = Unit {0}
IsLogic Xor = Unit {0}
IsLogic _ = ⊥

-- a logical operator on two bits, for all bits of two words
abbrev pub word_of : Operator → ℕ → ℕ → ℕ
word_of And x y = bit_and x y
word_of Or x y = bit_or x y
word_of _ x y = bit_xor x y

-- a logical operator on two rows of a type: on Booleans, or bit by bit on numbers
abbrev pub logic_row : Operator → ValueType → Row → Row → Row
logic_row op Boolean x y = boolean_logic_row op x y
logic_row op value_type x y = lift (bitwise (word_of op) value_type) x y

-- a logical operator, And, Or or Xor, on two columns of one type
unfoldable pub logic_rows : Operator → TypedRows → TypedRows → Option TypedRows
logic_rows op a b = broadcast_rows a.value_type (logic_row op a.value_type) a.rows b.rows

-- the negation of a Boolean, or the complement of an integer
abbrev pub inverse_row : ValueType → Row → Row
inverse_row Boolean x = not_row x
inverse_row value_type x = on_integer (complement value_type) x

-- the negations of Booleans, or the complements of integers
abbrev pub inverse_rows : TypedRows → TypedRows
inverse_rows a = record { value_type = a.value_type; rows = map (inverse_row a.value_type) a.rows }

-- whether a row is null, and whether it is not
abbrev pub null_row : Row → Row
null_row None = Some (BooleanValue true)
null_row (Some x) = Some (BooleanValue false)

abbrev pub value_row : Row → Row
value_row None = Some (BooleanValue false)
value_row (Some x) = Some (BooleanValue true)

-- the Booleans of a test of each row
abbrev pub tested_rows : (Row → Row) → TypedRows → TypedRows
tested_rows f a = record { value_type = Boolean; rows = map f a.rows }
