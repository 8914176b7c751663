-- The expression that a value stands for.
use Rattle.std.specs.Prelude.{List, [], ◌∷◌, codes, Option, Some, None, option_map, option_and_then, map, ℤ}
use Rattle.serde_json.specs.Data.{Data, null, boolean, number, string, array, object, Items, no_items, item, Members, no_members, member}
use Rattle.serde_json.specs.Find.{as_str, as_integer}
use Rattle.px_types.specs.ValueTypes.{dtype_of, holds}
use Rattle.px_functions.specs.declared.evaluated.EvaluatedFunction.{EvaluatedFunction}
use Rattle.px_functions.specs.Evaluated.{of_evaluated}
use Rattle.px_types.specs.declared.type_parts.CastOptions.{CastOptions}
use Rattle.px_types.specs.declared.operator.Operator.{Operator}
use Rattle.px_types.specs.declared.value_type.ValueType.{ValueType}
use Rattle.px_types.specs.declared.options.ApplyOptions.TheVariants.{ElementWise}
use Rattle.px_types.specs.declared.options.FmtName.TheVariants.{Empty}
use Rattle.px_types.specs.declared.options.FunctionOptions.{FunctionOptions}
use Rattle.px_expr.specs.declared.expr.Expr.{Expr}
use Rattle.px_expr.specs.declared.expr.Expr.TheVariants as expr
use Rattle.px_expr.specs.declared.literal.LiteralValue.{LiteralValue}
use Rattle.px_expr.specs.declared.literal.LiteralValue.TheVariants as value
use Rattle.px_meaning.specs.Literals.{literal_of}
use Rattle.px_json.specs.Column.{column_in}
use Rattle.px_json.specs.Digits.{has_128_bits, integer}
use Rattle.px_json.specs.JsonAccess.{◌>>=◌, only_if, two_fields, all_of}
use Rattle.px_json.specs.Names.{value_type_named}
use Rattle.px_forms.specs.Names.{form_named, operator_named, function_named, cast_named, literal_type_named}
use Rattle.px_forms.specs.declared.form.Form.{Form}
use Rattle.px_forms.specs.declared.form.Form.TheVariants as named
use Rattle.px_forms.specs.declared.form.ListForm.{ListForm}
use Rattle.px_forms.specs.declared.form.ListForm.TheVariants as list
use Rattle.px_forms.specs.declared.literal.LiteralType.{LiteralType}
use Rattle.px_forms.specs.declared.literal.LiteralType.TheVariants as type

-- an item of an array, with the expression that it stands for
abbrev pub Part : Type 0
Part = Data × Option Expr

-- the literal of a type that holds the number
abbrev pub literal_in : LiteralType → ℤ → Option LiteralValue
literal_in (type.Value value_type) z = only_if (holds value_type z) (Some (literal_of value_type z))
literal_in type.Int128 z = only_if (has_128_bits z) (Some (value.Int128 z))
literal_in type.Int z = only_if (has_128_bits z) (Some (value.Int z))

-- the type and the value of {"dtype": type, "value": v}
abbrev pub typed_parts : Data → Option (LiteralType × Data)
typed_parts d = do
  p ← two_fields (codes "dtype") (codes "value") d
  name ← as_str p.0
  type ← literal_type_named name
  Some (type, p.1)

-- an integer, or the text of its digits, with its type
abbrev pub typed_literal : Data → Option LiteralValue
typed_literal d = do
  p ← typed_parts d
  z ← integer p.1
  literal_in p.0 z

-- null, a Boolean, a text or an integer alone, or a literal with its type
abbrev pub literal : Data → Option LiteralValue
literal null = Some value.Null
literal (boolean t) = Some (value.Boolean t)
literal (string text) = Some (value.String text)
literal (number n) = option_map value.Int (as_integer n)
literal d = typed_literal d

-- [e, text]
abbrev pub aliased : List Part → Option Expr
aliased (e ∷ name ∷ []) = do
  text ← as_str name.0
  x ← e.1
  Some (expr.Alias x text)
aliased _ = None

-- an operator, by its name
abbrev pub operator_in : Data → Option Operator
operator_in d = option_and_then operator_named (as_str d)

-- [e, operator, e]
abbrev pub binary : List Part → Option Expr
binary (l ∷ op ∷ r ∷ []) = do
  op ← operator_in op.0
  x ← l.1
  y ← r.1
  Some (expr.BinaryExpr x op y)
binary _ = None

-- the type of a cast, and what it does with a value that the type lacks
abbrev pub cast_parts : Data → Data → Option (ValueType × CastOptions)
cast_parts d e = do
  name ← as_str d
  value_type ← value_type_named name
  text ← as_str e
  options ← cast_named text
  Some (value_type, options)

-- [e, type, "strict" or "nonstrict" or "overflowing"]
abbrev pub cast : List Part → Option Expr
cast (e ∷ type ∷ option ∷ []) = do
  p ← cast_parts type.0 option.0
  x ← e.1
  Some (expr.Cast x (dtype_of p.0) p.1)
cast _ = None

-- [e, e, e]
abbrev pub ternary : List Part → Option Expr
ternary (p ∷ t ∷ f ∷ []) = do
  x ← p.1
  y ← t.1
  z ← f.1
  Some (expr.Ternary x y z)
ternary _ = None

-- the options of a function that goes element by element
abbrev pub element_wise : FunctionOptions
element_wise = record { collect_groups = ElementWise; flags = record { 0 = 1 }; fmt_str = Empty; cast_options = None }

-- a function, by its text
abbrev pub function_in : Data → Option EvaluatedFunction
function_in d = option_and_then function_named (as_str d)

-- [text, input, ..]
abbrev pub function : List Part → Option Expr
function (name ∷ inputs) = do
  f ← function_in name.0
  es ← all_of (map (λ p. p.1) inputs)
  Some (expr.Function (record { entries = es }) (of_evaluated f) element_wise)
function [] = None

-- a form whose member is a list
abbrev pub list_form : ListForm → List Part → Option Expr
list_form list.Alias parts = aliased parts
list_form list.Binary parts = binary parts
list_form list.Cast parts = cast parts
list_form list.When parts = ternary parts
list_form list.Function parts = function parts

-- the form of a member, and of its items if it is a list
abbrev pub form : Form → Data → Option (List Part) → Option Expr
form named.Column d parts = option_map expr.Column (as_str d)
form named.Literal d parts = option_map expr.Literal (literal d)
form named.Series d parts = option_map (λ c. expr.Literal (value.Series c)) (column_in d)
form (named.ListForm f) d parts = option_and_then (list_form f) parts

abbrev mutual
  -- An expression is an object of one member, whose name is the form's.
  pub expr_of : Data → Option Expr
  expr_of (object ms) = expr_of_members ms
  expr_of _ = None

  -- the expression of an object's one member
  pub expr_of_members : Members → Option Expr
  expr_of_members (member name d no_members) = option_and_then (λ f. form f d (parts d)) (form_named name)
  expr_of_members _ = None

  -- the parts of an array
  pub parts : Data → Option (List Part)
  parts (array ds) = Some (parts_of ds)
  parts _ = None

  -- the items, each with the expression that it stands for
  pub parts_of : Items → List Part
  parts_of no_items = []
  parts_of (item d ds) = (d, expr_of d) ∷ parts_of ds

-- the expressions of all items
abbrev pub exprs_of : Items → Option (List Expr)
exprs_of ds = all_of (map (λ p. p.1) (parts_of ds))
