use Rattle.std.proofs.Common.{◌≡◌, sym}
use Rattle.std.proofs.lemmas.Result.{err_from_is_err_and}
use Rattle.px_base.proofs.Answers.{gives_as}
use Rattle.px_base.specs.declared.error.PlanError.TheVariants.{ShapeMismatch}
use Rattle.px_types.specs.declared.operator.Operator.TheVariants as op
use Rattle.px_types.specs.declared.value_type.ValueType.TheVariants.{Boolean}
use Rattle.px_semantics.specs.Bounds.{raised_row}
use Rattle.px_column.specs.Buffers.{values_of}
use Rattle.px_column.specs.ColumnOf.{type_of}
use Rattle.px_column.proofs.KernelRows.{refused}
use Rattle.px_elementwise.proofs.BoundedRows.{raises, compared_type, comparison_refused}
use Rattle.px_elementwise.proofs.bounds.raised_buffers.Goals as goal

pub zip_with_buffers-requires-clause-mask : goal.zip_with_buffers-requires-clause-mask
zip_with_buffers-requires-clause-mask c =
    let e : type_of c.in_ok-below.below ≡ Boolean = compared_type op.Lt (values_of c.args.a.now) (values_of c.args.low.now) (values_of c.in_ok-below.below) c.in_ok-below.ensures.rows in rw e tt

pub zip_with_buffers-requires-clause-same : goal.zip_with_buffers-requires-clause-same
zip_with_buffers-requires-clause-same c = sym c.requires

pub returns-in_err-below : goal.returns-in_err-below
returns-in_err-below c =
    let p = err_from_is_err_and c.from_residual.result c.from_residual.ensures.1 in
    rw (p.1, p.2) (refused _ (comparison_refused op.Lt raised_row (type_of c.args.a.now) (values_of c.args.a.now) (values_of c.args.low.now)) c.in_err-below.ensures.rows)

pub returns : goal.returns
returns c =
    gives_as ShapeMismatch values_of c.zip_with_buffers.result
    (raises (values_of c.in_ok-below.below) (values_of c.args.a.now) (values_of c.args.low.now) c.requires c.in_ok-below.ensures.rows)
    c.zip_with_buffers.ensures.rows
