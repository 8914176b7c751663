-- The value that an expression is written as. The options of its functions are left out.
use Rattle.std.specs.Prelude.{ℕ, ℤ, pos, List, [], ◌∷◌, codes, Bool, if◌then◌else◌, Option, Some, None, option_map, map, is_some}
use Rattle.serde_json.specs.Data.{Data, null, boolean, number, string, array, object, no_members, member}
use Rattle.serde_json.specs.Find.{of_integer}
use Rattle.serde_json.specs.View.{items_of}
use Rattle.px_semantics.specs.Columns.{is_column}
use Rattle.px_types.specs.ValueTypes.{holds, value_type_of}
use Rattle.px_functions.specs.declared.evaluated.EvaluatedFunction.{EvaluatedFunction}
use Rattle.px_types.specs.declared.type_parts.CastOptions.{CastOptions}
use Rattle.px_types.specs.declared.operator.Operator.{Operator}
use Rattle.px_types.specs.declared.value_type.ValueType.{ValueType}
use Rattle.px_types.specs.declared.value_type.ValueType.TheVariants as value_type
use Rattle.px_expr.specs.declared.literal.LiteralValue.{LiteralValue}
use Rattle.px_expr.specs.declared.literal.LiteralValue.TheVariants as value
use Rattle.px_expr.specs.Tree.{Node, Tree, fold_tree}
use Rattle.px_json.specs.Built.{single_member, pair, triple}
use Rattle.px_json.specs.Column.{column_data}
use Rattle.px_json.specs.Digits.{has_128_bits, is_plain_number, integer_data}
use Rattle.px_json.specs.JsonAccess.{◌>>=◌, only_if, all_of}
use Rattle.px_json.specs.Names.{value_type_name}
use Rattle.px_forms.specs.Names.{operator_name, function_text, cast_name, literal_type_name}
use Rattle.px_forms.specs.declared.literal.LiteralType.{LiteralType}
use Rattle.px_forms.specs.declared.literal.LiteralType.TheVariants as type

-- {"lit": v}
abbrev pub bare : Data → Data
bare d = single_member (codes "lit") d

-- {"lit": {"dtype": type, "value": v}}
abbrev pub typed : LiteralType → Data → Data
typed t d = bare (object (member (codes "dtype") (string (literal_type_name t)) (member (codes "value") d no_members)))

-- a number of an integer type that holds it
abbrev pub number_data : ValueType → ℤ → Option Data
number_data value_type z = only_if (holds value_type z) (Some (typed (type.Value value_type) (number (of_integer z))))

-- an integer whose type is open: a number alone where JSON has it
abbrev pub open_data : ℤ → Data
open_data z = if is_plain_number z then bare (number (of_integer z)) else typed type.Int (integer_data z)

-- the literal, if it has a form
abbrev pub literal_data : LiteralValue → Option Data
literal_data value.Null = Some (bare null)
literal_data (value.Boolean t) = Some (bare (boolean t))
literal_data (value.String text) = Some (bare (string text))
literal_data (value.UInt8 n) = number_data value_type.UInt8 (pos n)
literal_data (value.UInt16 n) = number_data value_type.UInt16 (pos n)
literal_data (value.UInt32 n) = number_data value_type.UInt32 (pos n)
literal_data (value.UInt64 n) = number_data value_type.UInt64 (pos n)
literal_data (value.Int8 z) = number_data value_type.Int8 z
literal_data (value.Int16 z) = number_data value_type.Int16 z
literal_data (value.Int32 z) = number_data value_type.Int32 z
literal_data (value.Int64 z) = number_data value_type.Int64 z
literal_data (value.Int128 z) = only_if (has_128_bits z) (Some (typed type.Int128 (integer_data z)))
literal_data (value.Int z) = only_if (has_128_bits z) (Some (open_data z))
literal_data (value.Series c) = only_if (is_column c.values) (Some (single_member (codes "series") (column_data c)))
literal_data _ = None

-- {"alias": [e, text]}
abbrev pub alias_data : Data → List ℕ → Data
alias_data x name = single_member (codes "alias") (pair x (string name))

-- {"binary": [e, operator, e]}
abbrev pub binary_data : Data → Operator → Data → Data
binary_data x op y = single_member (codes "binary") (triple x (string (operator_name op)) y)

-- {"cast": [e, type, "strict" or "nonstrict" or "overflowing"]}
abbrev pub cast_data : Data → ValueType → CastOptions → Data
cast_data x value_type options = single_member (codes "cast") (triple x (string (value_type_name value_type)) (string (cast_name options)))

-- {"when": [e, e, e]}
abbrev pub ternary_data : Data → Data → Data → Data
ternary_data p t f = single_member (codes "when") (triple p t f)

-- {"fn": [text, e, ..]}
abbrev pub function_data : EvaluatedFunction → List Data → Data
function_data f ds = single_member (codes "fn") (array (items_of (string (function_text f) ∷ ds)))

-- a node over the values of its inputs
abbrev pub node_data : Node → List (Option Data) → Option Data
node_data (Node.Alias name) (x ∷ []) = option_map (λ d. alias_data d name) x
node_data (Node.Column name) [] = Some (single_member (codes "col") (string name))
node_data (Node.Literal v) [] = literal_data v
node_data (Node.Binary op) (x ∷ y ∷ []) = do
  l ← x
  r ← y
  Some (binary_data l op r)
node_data (Node.Cast dtype options) (x ∷ []) = do
  value_type ← value_type_of dtype
  d ← x
  Some (cast_data d value_type options)
node_data Node.Ternary (x ∷ y ∷ z ∷ []) = do
  p ← x
  t ← y
  f ← z
  Some (ternary_data p t f)
node_data (Node.Function f) xs = option_map (function_data f) (all_of xs)
node_data _ _ = None

-- the value of an expression, if it has a form
abbrev pub data_of : Tree → Option Data
data_of = fold_tree node_data

-- the values of all expressions, if each has a form
abbrev pub all_data : List Tree → Option (List Data)
all_data ts = all_of (map data_of ts)

-- whether an expression can be written
abbrev pub has_form : Tree → Bool
has_form t = is_some (data_of t)
