use Rattle.px_semantics.specs.Extremes.{min_row}
use Rattle.px_semantics.specs.Horizontals.{min_horizontal_rows}
use Rattle.px_semantics.specs.Rows.{Contents}
use Rattle.px_horizontals.specs.Choices.{chosen}
use Rattle.px_horizontals.specs.Folds.{fold_row}
use Rattle.px_horizontals.specs.Inputs.{values_of_columns, first_type}
use Rattle.px_horizontals.specs.declared.choices.Choice.TheVariants as choice
use Rattle.px_horizontals.proofs.HorizontalRows.{law_answer}
use Rattle.px_horizontals.proofs.Kernels.{some_columns}
use Rattle.px_horizontals.proofs.Laws.{min_law}
use Rattle.px_horizontals.proofs.horizontals.min_horizontal.Goals as goal

pub returns-clause-rows : goal.returns-clause-rows
unfolding min_horizontal_rows
returns-clause-rows c =
    let columns = values_of_columns c.args.inputs.now in
    let k = first_type columns in
    law_answer k k (fold_row (chosen choice.Least)) min_row (min_law k) (λ (d : Contents). d.values) columns (some_columns c.args.inputs.now c.requires.some) c.requires.same
    c.folded_columns.result c.folded_columns.ensures.typed c.folded_columns.ensures.rows
