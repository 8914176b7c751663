use Rattle.std.proofs.Common.{ap}
use Rattle.px_column.specs.ColumnOf.{rows_of}
use Rattle.px_selection.proofs.Appended.{appended_nulls}
use Rattle.px_selection.proofs.concatenation.appended_rows.Goals as goal

pub returns-in-Null-Null-clause-rows : goal.returns-in-Null-Null-clause-rows
returns-in-Null-Null-clause-rows c =
    appended_nulls _ _ c.args.len (rows_of c.args.a.now) (rows_of c.args.b.now) c.requires.sum (ap rows_of c.in-Null-Null.is-0) (ap rows_of c.in-Null-Null.is-1)
