-- Signatures: which type a node wants of each input, and which type it has then. They read of an input its
-- type alone, or the value of an integer literal whose type the node settles.
use Rattle.std.specs.Prelude.{ℕ, ◌==◌, ℤ, Bool, true, false, not, ◌&&◌, ◌||◌, if◌then◌else◌, List, [], ◌∷◌, map, length, Option, Some, None, option_map, option_and_then}
use Rattle.px_base.specs.Exact.{same}
use Rattle.px_types.specs.Classes.{is_integer_value, is_unsigned_value, is_boolean_or_integer}
use Rattle.px_types.specs.ValueTypes.{value_type_of, common, holds, default_type}
use Rattle.px_types.specs.contracts.value_type.ValueType.{the_row}
use Rattle.px_functions.specs.declared.evaluated.EvaluatedBoolean.{EvaluatedBoolean}
use Rattle.px_functions.specs.declared.evaluated.EvaluatedBoolean.TheVariants.{IsNull, IsNotNull, Not}
use Rattle.px_functions.specs.declared.evaluated.EvaluatedFunction.{EvaluatedFunction}
use Rattle.px_functions.specs.declared.evaluated.EvaluatedFunction.TheVariants as function
use Rattle.px_types.specs.declared.operator.Operator.{Operator}
use Rattle.px_types.specs.declared.operator.Operator.TheVariants as op
use Rattle.px_types.specs.declared.value_type.ValueType.{ValueType}
use Rattle.px_types.specs.declared.value_type.ValueType.TheVariants as value_type
use Rattle.px_semantics.specs.Rows.{TypedRows}
use Rattle.px_expr.specs.Kernel.{Kernel}
use Rattle.px_expr.specs.Tree.{Node, Alias, Literal, Binary, Cast, Ternary, Function}
use Rattle.px_expr.specs.declared.literal.LiteralValue.{LiteralValue}
use Rattle.px_semantics.specs.Columns.{is_column}
use Rattle.px_semantics.specs.Rows.{is_boolean}
use Rattle.px_meaning.specs.Literals.{literal_rows}

-- an input of a known type, or an integer literal that has none yet
pub data Operand : Type 0 where
  OfType : ValueType → Operand
  UntypedInteger : ℤ → Operand

-- the type wanted of each input, and the type of the node
pub record Signature : Type 0 where
  pub inputs : List ValueType
  pub result : ValueType

-- whether two types are one
abbrev pub is_type : ValueType → ValueType → Bool
is_type a b = same the_row.coded a b

-- a value, where the test holds
abbrev pub given : {A : Type 0} → Bool → A → Option A
given test a = if test then Some a else None

-- the type of an input that no other settles: an integer literal has its default type
abbrev pub own_type : Operand → Option ValueType
own_type (OfType k) = Some k
own_type (UntypedInteger z) = default_type z

-- the common type of types that may be missing
abbrev pub common_of : Option ValueType → Option ValueType → Option ValueType
common_of (Some a) (Some b) = common a b
common_of _ _ = None

-- the common type of a type and the types of a list, from left to right
abbrev pub common_all : Option ValueType → List (Option ValueType) → Option ValueType
common_all a [] = a
common_all a (b ∷ bs) = common_all (common_of a b) bs

-- the types of the inputs that have one
abbrev pub own_types : List Operand → List (Option ValueType)
own_types [] = []
own_types (OfType k ∷ os) = Some k ∷ own_types os
own_types (UntypedInteger z ∷ os) = own_types os

-- the default types of the integer literals that the type does not hold
abbrev pub wanted_types : ValueType → List Operand → List (Option ValueType)
wanted_types base [] = []
wanted_types base (OfType k ∷ os) = wanted_types base os
wanted_types base (UntypedInteger z ∷ os) = if holds base z then wanted_types base os else default_type z ∷ wanted_types base os

abbrev pub widened : List Operand → Option ValueType → Option ValueType
widened os (Some base) = common_all (Some base) (wanted_types base os)
widened os None = None

-- the type to which inputs unite: the common type of those that have one, and of the default types of the
-- integer literals that this type does not hold. `Null` is neutral.
unfoldable pub united : List Operand → Option ValueType
united os = widened os (common_all (Some value_type.Null) (own_types os))

-- no inputs, and this type
abbrev pub leaf : ValueType → List Operand → Option Signature
leaf k [] = Some (record { inputs = []; result = k })
leaf k (o ∷ os) = None

abbrev pub of_input : (ValueType → Option ValueType) → ValueType → Option Signature
of_input result k = option_map (λ r. record { inputs = k ∷ []; result = r }) (result k)

-- one input as it is
abbrev pub unary : (ValueType → Option ValueType) → List Operand → Option Signature
unary result (o ∷ []) = option_and_then (of_input result) (own_type o)
unary result _ = None

abbrev pub of_united : (ValueType → Option ValueType) → List Operand → ValueType → Option Signature
of_united result os k = option_map (λ r. record { inputs = map (λ _. k) os; result = r }) (result k)

-- so many inputs, each in the type to which they unite
abbrev pub uniting : ℕ → (ValueType → Option ValueType) → List Operand → Option Signature
uniting count result os = if length os == count then option_and_then (of_united result os) (united os) else None

abbrev pub any_type : ValueType → Option ValueType
any_type k = Some k

abbrev pub integer_type : ValueType → Option ValueType
integer_type k = given (is_integer_value k) k

abbrev pub signed_type : ValueType → Option ValueType
signed_type k = given (is_integer_value k && not (is_unsigned_value k)) k

-- `Boolean` or an integer type
abbrev pub number_type : ValueType → Option ValueType
number_type k = given (is_boolean_or_integer k) k

abbrev pub boolean_type : ValueType → Option ValueType
boolean_type k = given (is_boolean k) k

-- `Boolean`, of inputs of any type
abbrev pub boolean_result : ValueType → Option ValueType
boolean_result k = Some value_type.Boolean

-- a literal whose rows are a column has their type
abbrev pub literal_type : Option TypedRows → Option ValueType
literal_type (Some values) = given (is_column values) values.value_type
literal_type None = None

abbrev pub literal_signature : LiteralValue → List Operand → Option Signature
literal_signature v os = option_and_then (λ k. leaf k os) (literal_type (literal_rows v))

-- the groups of operators
pub data Group : Type 0 where
  Arithmetic : Group
  Comparison : Group
  Bitwise : Group
  Logical : Group
  Fractional : Group

abbrev pub group_of : Operator → Group
group_of op.Eq = Comparison
group_of op.EqValidity = Comparison
group_of op.NotEq = Comparison
group_of op.NotEqValidity = Comparison
group_of op.Lt = Comparison
group_of op.LtEq = Comparison
group_of op.Gt = Comparison
group_of op.GtEq = Comparison
group_of op.Plus = Arithmetic
group_of op.Minus = Arithmetic
group_of op.Multiply = Arithmetic
group_of op.Divide = Arithmetic
group_of op.TrueDivide = Fractional
group_of op.FloorDivide = Arithmetic
group_of op.Modulus = Arithmetic
group_of op.And = Bitwise
group_of op.Or = Bitwise
group_of op.Xor = Bitwise
group_of op.LogicalAnd = Logical
group_of op.LogicalOr = Logical

-- the type of an operator of the group, from the type to which its operands unite
abbrev pub group_type : Group → ValueType → Option ValueType
group_type Arithmetic k = integer_type k
group_type Comparison k = boolean_result k
group_type Bitwise k = number_type k
group_type Logical k = boolean_type k
group_type Fractional k = None

-- `Null`, `Boolean` or an integer type
abbrev pub is_castable : ValueType → Bool
is_castable value_type.Null = true
is_castable k = is_boolean_or_integer k

-- a cast keeps the type, or goes from one castable type to another
-- core language only: no casts to texts or from them
abbrev pub cast_type : Option ValueType → ValueType → Option ValueType
cast_type (Some to) from = given (is_type from to || (is_castable from && is_castable to)) to
cast_type None from = None

-- a mask is `Boolean`, or `Null` and is cast
abbrev pub is_mask : Option ValueType → Bool
is_mask (Some value_type.Boolean) = true
is_mask (Some value_type.Null) = true
is_mask _ = false

abbrev pub masked : Signature → Signature
masked s = record { inputs = value_type.Boolean ∷ s.inputs; result = s.result }

-- a mask, and two branches that unite
abbrev pub ternary_signature : List Operand → Option Signature
ternary_signature (p ∷ os) = if is_mask (own_type p) then option_map masked (uniting 2 any_type os) else None
ternary_signature [] = None

abbrev pub boolean_signature : EvaluatedBoolean → List Operand → Option Signature
boolean_signature IsNull os = unary boolean_result os
boolean_signature IsNotNull os = unary boolean_result os
boolean_signature Not os = unary number_type os

abbrev pub function_signature : EvaluatedFunction → List Operand → Option Signature
function_signature (function.Boolean f) os = boolean_signature f os
function_signature function.Negate os = unary signed_type os
function_signature (function.Fused f) os = uniting 3 integer_type os

-- the signature of a node over such inputs, a column aside
unfoldable pub signature : List Kernel → Node → List Operand → Option Signature
signature kernels (Alias name) os = unary any_type os
signature kernels (Literal v) os = literal_signature v os
signature kernels (Binary o) os = uniting 2 (group_type (group_of o)) os
signature kernels (Cast dtype options) os = unary (cast_type (value_type_of dtype)) os
signature kernels Ternary os = ternary_signature os
signature kernels (Function f) os = function_signature f os
-- core language only: no gathers, slices, filters, aggregates, kernels or numbers of rows; and never a function
-- that is not evaluated
signature kernels _ os = None
