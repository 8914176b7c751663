-- The names of forms, operators, functions, options of casts and types of literals.
use Rattle.std.specs.Prelude.{ℕ, List, codes, bytes_eq, if◌then◌else◌, Option, Some, None, option_map}
use Rattle.px_functions.specs.declared.evaluated.EvaluatedBoolean.TheVariants.{IsNull, IsNotNull, Not}
use Rattle.px_functions.specs.declared.evaluated.EvaluatedFunction.{EvaluatedFunction}
use Rattle.px_functions.specs.declared.evaluated.EvaluatedFunction.TheVariants as function
use Rattle.px_types.specs.declared.function.FusedOperator.TheVariants.{MultiplyAdd, SubMultiply, MultiplySub}
use Rattle.px_types.specs.declared.type_parts.CastOptions.{CastOptions}
use Rattle.px_types.specs.declared.type_parts.CastOptions.TheVariants.{Strict, NonStrict, Overflowing}
use Rattle.px_types.specs.declared.operator.Operator.{Operator}
use Rattle.px_types.specs.declared.operator.Operator.TheVariants.{Eq, EqValidity, NotEq, NotEqValidity, Lt, LtEq, Gt, GtEq, Plus, Minus, Multiply, Divide, TrueDivide, FloorDivide, Modulus, And, Or, Xor, LogicalAnd, LogicalOr}
use Rattle.px_json.specs.Names.{value_type_name, value_type_named}
use Rattle.px_forms.specs.declared.form.Form.{Form}
use Rattle.px_forms.specs.declared.form.Form.TheVariants.{Column, Literal, Series, ListForm}
use Rattle.px_forms.specs.declared.form.ListForm.TheVariants as list_form
use Rattle.px_forms.specs.declared.literal.LiteralType.{LiteralType}
use Rattle.px_forms.specs.declared.literal.LiteralType.TheVariants as type

-- the form of a name
unfoldable pub form_named : List ℕ → Option Form
form_named name =
    if bytes_eq name (codes "col") then Some Column
    else (if bytes_eq name (codes "lit") then Some Literal
    else (if bytes_eq name (codes "series") then Some Series
    else (if bytes_eq name (codes "alias") then Some (ListForm list_form.Alias)
    else (if bytes_eq name (codes "binary") then Some (ListForm list_form.Binary)
    else (if bytes_eq name (codes "cast") then Some (ListForm list_form.Cast)
    else (if bytes_eq name (codes "when") then Some (ListForm list_form.When)
    else (if bytes_eq name (codes "fn") then Some (ListForm list_form.Function)
    else None)))))))

-- the name of an operator
unfoldable pub operator_name : Operator → List ℕ
operator_name Eq = codes "Eq"
operator_name EqValidity = codes "EqValidity"
operator_name NotEq = codes "NotEq"
operator_name NotEqValidity = codes "NotEqValidity"
operator_name Lt = codes "Lt"
operator_name LtEq = codes "LtEq"
operator_name Gt = codes "Gt"
operator_name GtEq = codes "GtEq"
operator_name Plus = codes "Plus"
operator_name Minus = codes "Minus"
operator_name Multiply = codes "Multiply"
operator_name Divide = codes "Divide"
operator_name TrueDivide = codes "TrueDivide"
operator_name FloorDivide = codes "FloorDivide"
operator_name Modulus = codes "Modulus"
operator_name And = codes "And"
operator_name Or = codes "Or"
operator_name Xor = codes "Xor"
operator_name LogicalAnd = codes "LogicalAnd"
operator_name LogicalOr = codes "LogicalOr"

-- the operator that has the name
unfoldable pub operator_named : List ℕ → Option Operator
operator_named name =
    if bytes_eq name (codes "Eq") then Some Eq
    else (if bytes_eq name (codes "EqValidity") then Some EqValidity
    else (if bytes_eq name (codes "NotEq") then Some NotEq
    else (if bytes_eq name (codes "NotEqValidity") then Some NotEqValidity
    else (if bytes_eq name (codes "Lt") then Some Lt
    else (if bytes_eq name (codes "LtEq") then Some LtEq
    else (if bytes_eq name (codes "Gt") then Some Gt
    else (if bytes_eq name (codes "GtEq") then Some GtEq
    else (if bytes_eq name (codes "Plus") then Some Plus
    else (if bytes_eq name (codes "Minus") then Some Minus
    else (if bytes_eq name (codes "Multiply") then Some Multiply
    else (if bytes_eq name (codes "Divide") then Some Divide
    else (if bytes_eq name (codes "TrueDivide") then Some TrueDivide
    else (if bytes_eq name (codes "FloorDivide") then Some FloorDivide
    else (if bytes_eq name (codes "Modulus") then Some Modulus
    else (if bytes_eq name (codes "And") then Some And
    else (if bytes_eq name (codes "Or") then Some Or
    else (if bytes_eq name (codes "Xor") then Some Xor
    else (if bytes_eq name (codes "LogicalAnd") then Some LogicalAnd
    else (if bytes_eq name (codes "LogicalOr") then Some LogicalOr
    else None)))))))))))))))))))

-- the text of a function
unfoldable pub function_text : EvaluatedFunction → List ℕ
function_text (function.Boolean IsNull) = codes "is_null"
function_text (function.Boolean IsNotNull) = codes "is_not_null"
function_text (function.Boolean Not) = codes "not"
function_text function.Negate = codes "negate"
function_text (function.Fused MultiplyAdd) = codes "fma"
function_text (function.Fused SubMultiply) = codes "fsm"
function_text (function.Fused MultiplySub) = codes "fms"

-- the function that has the text
unfoldable pub function_named : List ℕ → Option EvaluatedFunction
function_named text =
    if bytes_eq text (codes "is_null") then Some (function.Boolean IsNull)
    else (if bytes_eq text (codes "is_not_null") then Some (function.Boolean IsNotNull)
    else (if bytes_eq text (codes "not") then Some (function.Boolean Not)
    else (if bytes_eq text (codes "negate") then Some function.Negate
    else (if bytes_eq text (codes "fma") then Some (function.Fused MultiplyAdd)
    else (if bytes_eq text (codes "fsm") then Some (function.Fused SubMultiply)
    else (if bytes_eq text (codes "fms") then Some (function.Fused MultiplySub)
    else None))))))

-- the name of what a cast does with a value that its target lacks
unfoldable pub cast_name : CastOptions → List ℕ
cast_name Strict = codes "strict"
cast_name NonStrict = codes "nonstrict"
cast_name Overflowing = codes "overflowing"

-- what a cast does by that name
unfoldable pub cast_named : List ℕ → Option CastOptions
cast_named name =
    if bytes_eq name (codes "strict") then Some Strict
    else (if bytes_eq name (codes "nonstrict") then Some NonStrict
    else (if bytes_eq name (codes "overflowing") then Some Overflowing
    else None))

-- the name of a type of literals
unfoldable pub literal_type_name : LiteralType → List ℕ
literal_type_name (type.Value value_type) = value_type_name value_type
literal_type_name type.Int128 = codes "Int128"
literal_type_name type.Int = codes "Int"

-- the type of literals that has the name
unfoldable pub literal_type_named : List ℕ → Option LiteralType
literal_type_named name =
    if bytes_eq name (codes "Int128") then Some type.Int128
    else (if bytes_eq name (codes "Int") then Some type.Int
    else option_map type.Value (value_type_named name))
