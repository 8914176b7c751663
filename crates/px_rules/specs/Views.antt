-- What a node shows to a rule.
use Rattle.std.specs.Prelude.{List, [], ◌∷◌, Bool, false, Option, Some, None}
use Rattle.px_functions.specs.declared.evaluated.EvaluatedBoolean.{EvaluatedBoolean}
use Rattle.px_functions.specs.declared.evaluated.EvaluatedBoolean.TheVariants.{Not}
use Rattle.px_functions.specs.declared.evaluated.EvaluatedFunction.{EvaluatedFunction}
use Rattle.px_functions.specs.declared.evaluated.EvaluatedFunction.TheVariants as function
use Rattle.px_functions.specs.Evaluated.{evaluated}
use Rattle.px_types.specs.declared.options.FunctionOptions.{FunctionOptions}
use Rattle.px_expr.specs.declared.literal.LiteralValue.{LiteralValue}
use Rattle.px_expr.specs.declared.literal.LiteralValue.TheVariants as lit
use Rattle.px_meaning.specs.Literals.{is_scalar}
use Rattle.px_arena.specs.declared.node.AExpr.{AExpr}
use Rattle.px_arena.specs.declared.node.AExpr.TheVariants as ir
use Rattle.px_arena.specs.declared.node.ExprIR.{ExprIR}
use Rattle.px_arena.specs.declared.node.Node.{Node}
use Rattle.px_rules.specs.declared.views.BinaryParts.{BinaryParts}
use Rattle.px_rules.specs.declared.views.BooleanCall.{BooleanCall}

abbrev pub binary_of : AExpr → Option BinaryParts
binary_of (ir.BinaryExpr left op right) = Some (record { left = left; op = op; right = right })
binary_of _ = None

-- a function over one input
abbrev pub call_over : EvaluatedBoolean → FunctionOptions → List ExprIR → Option BooleanCall
call_over f own (p ∷ []) = Some (record { function = f; input = p.0; options = own })
call_over f own _ = None

abbrev pub boolean_over : Option EvaluatedFunction → FunctionOptions → List ExprIR → Option BooleanCall
boolean_over (Some (function.Boolean f)) own inputs = call_over f own inputs
boolean_over _ own inputs = None

abbrev pub boolean_of : AExpr → Option BooleanCall
boolean_of (ir.Function input f own) = boolean_over (evaluated f) own input.entries
boolean_of _ = None

abbrev pub boolean_literal_of : AExpr → Option Bool
boolean_literal_of (ir.Literal (lit.Boolean t)) = Some t
boolean_literal_of _ = None

abbrev pub if_not : EvaluatedBoolean → BooleanCall → Option BooleanCall
if_not Not call = Some call
if_not _ call = None

abbrev pub option_not : Option BooleanCall → Option BooleanCall
option_not (Some call) = if_not call.function call
option_not None = None

-- a `not` over one input
abbrev pub not_of : AExpr → Option BooleanCall
not_of x = option_not (boolean_of x)

abbrev pub literal_of : AExpr → Option LiteralValue
literal_of (ir.Literal v) = Some v
literal_of _ = None

abbrev pub is_scalar_literal : AExpr → Bool
is_scalar_literal (ir.Literal v) = is_scalar v
is_scalar_literal _ = false

abbrev pub only_place : List ExprIR → Option Node
only_place (p ∷ []) = Some p.0
only_place _ = None

abbrev pub negated_place : Option EvaluatedFunction → List ExprIR → Option Node
negated_place (Some function.Negate) inputs = only_place inputs
negated_place _ inputs = None

-- the input of a minus of one input
abbrev pub negate_of : AExpr → Option Node
negate_of (ir.Function input f own) = negated_place (evaluated f) input.entries
negate_of _ = None
