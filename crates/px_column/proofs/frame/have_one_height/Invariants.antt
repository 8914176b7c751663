use Rattle.std.proofs.Common.{◌≡◌, ◌==◌, drop}
use Rattle.std.specs.List.{list_all}
use Rattle.px_semantics.specs.Columns.{are_columns}
use Rattle.px_semantics.specs.Frames.{heights}
use Rattle.px_column.proofs.frame.have_one_height.Given as goal

-- the answer is that of the columns that are left
abbrev pub invariant-loop-column : goal.invariant-loop-column
invariant-loop-column l = record {
  height : list_all (λ m. m == l.height) (heights l.others) ≡ list_all (λ m. m == l.height) (heights (drop l.column-index l.others));
  columns : are_columns l.others ≡ are_columns (drop l.column-index l.others);
}
