use Rattle.std.proofs.Common.{false}
use Rattle.px_semantics.specs.Aggregates.{all_row}
use Rattle.px_semantics.specs.Horizontals.{all_horizontal_rows}
use Rattle.px_semantics.specs.Logic.{and_row}
use Rattle.px_semantics.specs.Rows.{Contents}
use Rattle.px_horizontals.specs.Folds.{fold_row}
use Rattle.px_horizontals.specs.Inputs.{values_of_columns}
use Rattle.px_horizontals.proofs.Kernels.{some_columns, boolean_answer}
use Rattle.px_horizontals.proofs.Laws.{all_law}
use Rattle.px_horizontals.proofs.horizontals.all_horizontal.Goals as goal

pub returns-clause-rows : goal.returns-clause-rows
unfolding all_horizontal_rows
returns-clause-rows c =
    let columns = values_of_columns c.args.inputs.now in
    boolean_answer (λ (d : Contents). d.values) (fold_row and_row) (all_row false) all_law columns (some_columns c.args.inputs.now c.requires.some) c.requires.boolean
    c.folded_columns.result c.folded_columns.ensures.typed c.folded_columns.ensures.rows
