use Rattle.std.proofs.Common.{◌≡◌, sym}
use Rattle.std.proofs.lemmas.Result.{err_from_is_err_and}
use Rattle.px_base.proofs.Answers.{gives_as}
use Rattle.px_base.specs.declared.error.PlanError.TheVariants.{ShapeMismatch}
use Rattle.px_types.specs.declared.operator.Operator.TheVariants as op
use Rattle.px_types.specs.declared.value_type.ValueType.TheVariants.{Boolean}
use Rattle.px_semantics.specs.Bounds.{lowered_row}
use Rattle.px_column.specs.Buffers.{values_of}
use Rattle.px_column.specs.ColumnOf.{type_of}
use Rattle.px_column.proofs.KernelRows.{refused}
use Rattle.px_elementwise.proofs.BoundedRows.{lowers, compared_type, comparison_refused}
use Rattle.px_elementwise.proofs.bounds.lowered_buffers.Goals as goal

pub zip_with_buffers-requires-clause-mask : goal.zip_with_buffers-requires-clause-mask
zip_with_buffers-requires-clause-mask c =
    let e : type_of c.in_ok-above.above ≡ Boolean = compared_type op.Gt (values_of c.args.a.now) (values_of c.args.high.now) (values_of c.in_ok-above.above) c.in_ok-above.ensures.rows in rw e tt

pub zip_with_buffers-requires-clause-same : goal.zip_with_buffers-requires-clause-same
zip_with_buffers-requires-clause-same c = sym c.requires

pub returns-in_err-above : goal.returns-in_err-above
returns-in_err-above c =
    let p = err_from_is_err_and c.from_residual.result c.from_residual.ensures.1 in
    rw (p.1, p.2) (refused _ (comparison_refused op.Gt lowered_row (type_of c.args.a.now) (values_of c.args.a.now) (values_of c.args.high.now)) c.in_err-above.ensures.rows)

pub returns : goal.returns
returns c =
    gives_as ShapeMismatch values_of c.zip_with_buffers.result
    (lowers (values_of c.in_ok-above.above) (values_of c.args.a.now) (values_of c.args.high.now) c.requires c.in_ok-above.ensures.rows)
    c.zip_with_buffers.ensures.rows
