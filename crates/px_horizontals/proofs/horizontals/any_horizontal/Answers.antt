use Rattle.std.proofs.Common.{false}
use Rattle.px_semantics.specs.Aggregates.{any_row}
use Rattle.px_semantics.specs.Horizontals.{any_horizontal_rows}
use Rattle.px_semantics.specs.Logic.{or_row}
use Rattle.px_semantics.specs.Rows.{Contents}
use Rattle.px_horizontals.specs.Folds.{fold_row}
use Rattle.px_horizontals.specs.Inputs.{values_of_columns}
use Rattle.px_horizontals.proofs.Kernels.{some_columns, boolean_answer}
use Rattle.px_horizontals.proofs.Laws.{any_law}
use Rattle.px_horizontals.proofs.horizontals.any_horizontal.Goals as goal

pub returns-clause-rows : goal.returns-clause-rows
unfolding any_horizontal_rows
returns-clause-rows c =
    let columns = values_of_columns c.args.inputs.now in
    boolean_answer (λ (d : Contents). d.values) (fold_row or_row) (any_row false) any_law columns (some_columns c.args.inputs.now c.requires.some) c.requires.boolean
    c.folded_columns.result c.folded_columns.ensures.typed c.folded_columns.ensures.rows
