use Rattle.std.proofs.Common.{◌∙◌, ap, map}
use Rattle.px_types.specs.declared.value_type.ValueType.TheVariants.{Boolean}
use Rattle.px_semantics.proofs.Joining.{of_type}
use Rattle.px_arrays.specs.BitmapOf.{non_null}
use Rattle.px_column.specs.ColumnOf.{rows_of}
use Rattle.px_column.proofs.KernelRows.{present_flags}
use Rattle.px_elementwise.proofs.bounds.validity_mask.Goals as goal

pub returns : goal.returns
returns c = ap (of_type Boolean) (c.in_ok-rows.ensures ∙ ap (map non_null) c.in_ok-valid.ensures ∙ present_flags (rows_of c.args.a.now))
