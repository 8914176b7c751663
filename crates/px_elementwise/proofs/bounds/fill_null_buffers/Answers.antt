use Rattle.std.proofs.Common.{◌≡◌, ap}
use Rattle.px_base.proofs.Answers.{gives_as}
use Rattle.px_base.specs.declared.error.PlanError.TheVariants.{ShapeMismatch}
use Rattle.px_types.specs.declared.value_type.ValueType.TheVariants.{Boolean}
use Rattle.px_semantics.specs.Rows.{TypedRows}
use Rattle.px_column.specs.Buffers.{values_of}
use Rattle.px_column.specs.ColumnOf.{type_of}
use Rattle.px_elementwise.proofs.BoundedRows.{fills}
use Rattle.px_elementwise.proofs.bounds.fill_null_buffers.Goals as goal

pub zip_with_buffers-requires-clause-mask : goal.zip_with_buffers-requires-clause-mask
zip_with_buffers-requires-clause-mask c = let e : type_of c.in_ok-mask.mask ≡ Boolean = ap (λ (t : TypedRows). t.value_type) c.in_ok-mask.ensures in rw e tt

pub returns : goal.returns
returns c =
    gives_as ShapeMismatch values_of c.zip_with_buffers.result
    (fills (values_of c.in_ok-mask.mask) (values_of c.args.a.now) (values_of c.args.fill.now) (ap (λ (t : TypedRows). t.rows) c.in_ok-mask.ensures))
    c.zip_with_buffers.ensures.rows
