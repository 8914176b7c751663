use Rattle.std.proofs.Common.{ap}
use Rattle.px_column.specs.ColumnOf.{rows_of}
use Rattle.px_kernels.proofs.SelectionRows.{null_rows_chosen}
use Rattle.px_kernels.proofs.selection.selected_rows.Goals as goal

pub returns-in-Null-Null-clause-rows : goal.returns-in-Null-Null-clause-rows
returns-in-Null-Null-clause-rows c =
    null_rows_chosen _ _ c.args.mask.now (rows_of c.args.a.now) (rows_of c.args.b.now) (ap rows_of c.in-Null-Null.is-0) (ap rows_of c.in-Null-Null.is-1) c.requires.mask c.requires.same_length
