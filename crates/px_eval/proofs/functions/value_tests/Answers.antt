use Rattle.std.proofs.Common.{ap}
use Rattle.px_types.specs.declared.value_type.ValueType.TheVariants.{Boolean}
use Rattle.px_column.specs.ColumnOf.{rows_of}
use Rattle.px_column.proofs.KernelRows.{of_type, present_flags}
use Rattle.px_eval.proofs.functions.value_tests.Goals as goal

pub returns : goal.returns
returns c = rw (c.in_ok-rows.ensures, c.in_ok-valid.ensures) (ap (of_type Boolean) (present_flags (rows_of c.args.a.now)))
