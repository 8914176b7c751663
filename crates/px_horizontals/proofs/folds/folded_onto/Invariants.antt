use Rattle.std.proofs.Common.{◌≡◌, take, length}
use Rattle.px_column.specs.ColumnOf.{type_of, rows_of}
use Rattle.px_horizontals.specs.Folds.{fold_lists}
use Rattle.px_horizontals.specs.Inputs.{rows_of_buffers}
use Rattle.px_horizontals.proofs.folds.folded_onto.Given as goal

abbrev pub invariant-loop-input : goal.invariant-loop-input
invariant-loop-input g l = record {
  value_type : type_of l.total ≡ type_of l.fn.start;
  long : length (rows_of l.total) ≡ length (rows_of l.fn.start);
  rows : rows_of l.total ≡ fold_lists (g.F.Fold.step (type_of l.fn.start)) (length (rows_of l.fn.start)) (rows_of l.fn.start) (rows_of_buffers (take l.input-index l.inputs));
}
