-- What a Boolean literal beside `And` and `Or` decides.
use Rattle.std.specs.Prelude.{Bool, true, false, Option, Some, None}
use Rattle.px_types.specs.declared.operator.Operator.{Operator}
use Rattle.px_types.specs.declared.operator.Operator.TheVariants as op
use Rattle.px_expr.specs.declared.context.Context.{Context}
use Rattle.px_expr.specs.declared.context.Context.TheVariants.{Select, Filter}
use Rattle.px_rules.specs.declared.simplify_boolean.Outcome.{Outcome}
use Rattle.px_rules.specs.declared.simplify_boolean.Outcome.TheVariants.{Other, Absorbed}

-- the Boolean that decides `And` and `Or` alone
abbrev pub absorbing : Operator → Option Bool
absorbing op.And = Some false
absorbing op.Or = Some true
absorbing _ = None

abbrev pub given : {A : Type 0} → Bool → A → Option A
given true a = Some a
given false a = None

-- what a Boolean literal decides: the absorbing one beside a scalar literal the whole, and the other one, where it may
-- be dropped, that the other operand is the answer
abbrev pub decided : Bool → Bool → Bool → Option Bool → Option Outcome
decided true may_drop other_scalar (Some true) = given other_scalar Absorbed
decided false may_drop other_scalar (Some false) = given other_scalar Absorbed
decided true may_drop other_scalar (Some false) = given may_drop Other
decided false may_drop other_scalar (Some true) = given may_drop Other
decided _ may_drop other_scalar None = None

abbrev pub in_filter : Context → Bool
in_filter Filter = true
in_filter Select = false
