-- Which functions are evaluated. Every other function has a text and a type answer, and no meaning.
use Rattle.std.specs.Prelude.{Option, Some, None, option_map}
use Rattle.px_functions.specs.declared.function.BooleanFunction.{BooleanFunction}
use Rattle.px_functions.specs.declared.function.BooleanFunction.TheVariants as boolean
use Rattle.px_functions.specs.declared.function.FunctionExpr.{FunctionExpr}
use Rattle.px_functions.specs.declared.function.FunctionExpr.TheVariants as function
use Rattle.px_functions.specs.declared.evaluated.EvaluatedBoolean.{EvaluatedBoolean}
use Rattle.px_functions.specs.declared.evaluated.EvaluatedBoolean.TheVariants.{IsNull, IsNotNull, Not}
use Rattle.px_functions.specs.declared.evaluated.EvaluatedFunction.{EvaluatedFunction}
use Rattle.px_functions.specs.declared.evaluated.EvaluatedFunction.TheVariants.{Boolean, Negate, Fused}

abbrev pub evaluated_boolean : BooleanFunction → Option EvaluatedBoolean
evaluated_boolean boolean.IsNull = Some IsNull
evaluated_boolean boolean.IsNotNull = Some IsNotNull
evaluated_boolean boolean.Not = Some Not
evaluated_boolean _ = None

abbrev pub evaluated : FunctionExpr → Option EvaluatedFunction
evaluated (function.Boolean f) = option_map Boolean (evaluated_boolean f)
evaluated function.Negate = Some Negate
evaluated (function.Fused f) = Some (Fused f)
evaluated _ = None

-- the same function among all
abbrev pub boolean_of_evaluated : EvaluatedBoolean → BooleanFunction
boolean_of_evaluated IsNull = boolean.IsNull
boolean_of_evaluated IsNotNull = boolean.IsNotNull
boolean_of_evaluated Not = boolean.Not

abbrev pub of_evaluated : EvaluatedFunction → FunctionExpr
of_evaluated (Boolean f) = function.Boolean (boolean_of_evaluated f)
of_evaluated Negate = function.Negate
of_evaluated (Fused f) = function.Fused f
