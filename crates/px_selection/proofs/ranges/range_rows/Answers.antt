use Rattle.std.proofs.Common.{refl, ap}
use Rattle.px_column.specs.ColumnOf.{rows_of}
use Rattle.px_selection.proofs.Ranged.{ranged_nulls}
use Rattle.px_selection.proofs.ranges.range_rows.Goals as goal

pub returns-in-Null-clause-rows : goal.returns-in-Null-clause-rows
returns-in-Null-clause-rows c = ranged_nulls _ _ c.args.start c.args.end (rows_of c.args.a.now) refl c.requires.inside (ap rows_of c.in-Null.is)
