-- How a `not` goes into its input.
use Rattle.std.specs.Prelude.{Option, Some, None, List, [], ◌∷◌, slice_get}
use Rattle.px_functions.specs.declared.evaluated.EvaluatedBoolean.{EvaluatedBoolean}
use Rattle.px_functions.specs.declared.evaluated.EvaluatedBoolean.TheVariants as boolean
use Rattle.px_functions.specs.declared.evaluated.EvaluatedFunction.TheVariants as function
use Rattle.px_functions.specs.Evaluated.{of_evaluated}
use Rattle.px_types.specs.declared.operator.Operator.{Operator}
use Rattle.px_types.specs.declared.operator.Operator.TheVariants as op
use Rattle.px_types.specs.declared.options.FunctionOptions.{FunctionOptions}
use Rattle.px_arena.specs.declared.node.AExpr.{AExpr}
use Rattle.px_arena.specs.declared.node.AExpr.TheVariants as ir
use Rattle.px_arena.specs.declared.node.Node.{Node}
use Rattle.px_rules.specs.declared.simplify_expr.NegatedOperator.{NegatedOperator}
use Rattle.px_rules.specs.declared.simplify_expr.NegatedOperator.TheVariants.{Complement, Dual}
use Rattle.px_rules.specs.declared.views.BooleanCall.{BooleanCall}

-- the comparison that holds where this one does not, or the operator over the negated operands
abbrev pub inward : Operator → Option NegatedOperator
inward op.Eq = Some (Complement op.NotEq)
inward op.NotEq = Some (Complement op.Eq)
inward op.Lt = Some (Complement op.GtEq)
inward op.LtEq = Some (Complement op.Gt)
inward op.Gt = Some (Complement op.LtEq)
inward op.GtEq = Some (Complement op.Lt)
inward op.And = Some (Dual op.Or)
inward op.LogicalAnd = Some (Dual op.Or)
inward op.Or = Some (Dual op.And)
inward op.LogicalOr = Some (Dual op.And)
inward _ = None

-- a Boolean function over one place
abbrev pub boolean_call : EvaluatedBoolean → Node → FunctionOptions → AExpr
boolean_call f input own = ir.Function (record { entries = record { 0 = input } ∷ [] }) (of_evaluated (function.Boolean f)) own

-- the negation of a Boolean function: what stands under a `not`, or the other null test with the same options
abbrev pub negated_call : List AExpr → EvaluatedBoolean → BooleanCall → Option AExpr
negated_call items boolean.Not call = slice_get items call.input.0
negated_call items boolean.IsNull call = Some (boolean_call boolean.IsNotNull call.input call.options)
negated_call items boolean.IsNotNull call = Some (boolean_call boolean.IsNull call.input call.options)
