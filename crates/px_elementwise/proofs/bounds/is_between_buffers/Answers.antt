use Rattle.std.proofs.Common.{◌≡◌, ◌∙◌, inl, sym}
use Rattle.std.proofs.lemmas.Result.{err_from_is_err_and}
use Rattle.px_base.proofs.Answers.{gives_as}
use Rattle.px_base.specs.declared.error.PlanError.TheVariants.{ShapeMismatch}
use Rattle.px_types.specs.declared.operator.Operator.TheVariants as op
use Rattle.px_types.specs.declared.value_type.ValueType.TheVariants.{Boolean}
use Rattle.px_column.specs.Buffers.{values_of}
use Rattle.px_column.specs.ColumnOf.{type_of}
use Rattle.px_column.proofs.KernelRows.{refused}
use Rattle.px_elementwise.proofs.BoundedRows.{compared_type, logic_answer, between, lower_refused, upper_refused}
use Rattle.px_elementwise.proofs.bounds.is_between_buffers.Goals as goal

pub logic-requires-clause-operand : goal.logic-requires-clause-operand
logic-requires-clause-operand c =
    let e : type_of c.in_ok-above.above ≡ Boolean = compared_type c.lower_test.result (values_of c.args.a.now) (values_of c.args.lower.now) (values_of c.in_ok-above.above) c.in_ok-above.ensures.rows in rw e (inl tt)

pub logic-requires-clause-same : goal.logic-requires-clause-same
logic-requires-clause-same c =
    let e : type_of c.in_ok-above.above ≡ Boolean = compared_type c.lower_test.result (values_of c.args.a.now) (values_of c.args.lower.now) (values_of c.in_ok-above.above) c.in_ok-above.ensures.rows in
    let f : type_of c.in_ok-below.below ≡ Boolean = compared_type c.upper_test.result (values_of c.args.a.now) (values_of c.args.upper.now) (values_of c.in_ok-below.below) c.in_ok-below.ensures.rows in
    e ∙ sym f

pub returns-in_err-above : goal.returns-in_err-above
returns-in_err-above c =
    let p = err_from_is_err_and c.from_residual.result c.from_residual.ensures.1 in
    let h = rw c.lower_test.ensures.test at c.in_err-above.ensures.rows in
    rw (p.1, p.2) (refused _ (lower_refused c.args.closed (values_of c.args.a.now) (values_of c.args.lower.now) (values_of c.args.upper.now)) h)

pub returns-in_err-below : goal.returns-in_err-below
returns-in_err-below c =
    let p = err_from_is_err_and c.from_residual-in_err-below.result c.from_residual-in_err-below.ensures.1 in
    let h = rw c.upper_test.ensures.test at c.in_err-below.ensures.rows in
    rw (p.1, p.2) (refused _ (upper_refused c.args.closed (values_of c.args.a.now) (values_of c.args.lower.now) (values_of c.args.upper.now)) h)

pub returns : goal.returns
returns c =
    let above = values_of c.in_ok-above.above in
    let below = values_of c.in_ok-below.below in
    let p = rw c.lower_test.ensures.test at c.in_ok-above.ensures.rows in
    let q = rw c.upper_test.ensures.test at c.in_ok-below.ensures.rows in
    gives_as ShapeMismatch values_of c.logic.result
    (between c.args.closed (values_of c.args.a.now) (values_of c.args.lower.now) (values_of c.args.upper.now) above below p q)
    (logic_answer op.And above below c.logic.result c.logic.ensures.value_type c.logic.ensures.rows)
