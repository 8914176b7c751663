use Rattle.std.proofs.Common.{arith, ap}
use Rattle.px_column.specs.ColumnOf.{rows_of}
use Rattle.px_selection.proofs.Taken.{taken_nulls}
use Rattle.px_selection.proofs.take.take_rows.Goals as goal

pub returns-in-Null-clause-rows : goal.returns-in-Null-clause-rows
returns-in-Null-clause-rows c = taken_nulls _ _ (rows_of c.args.a.now) c.args.positions.now (omega arith) (ap rows_of c.in-Null.is)
