use Rattle.px_semantics.specs.Extremes.{max_row}
use Rattle.px_semantics.specs.Horizontals.{max_horizontal_rows}
use Rattle.px_column.specs.Buffers.{values_of}
use Rattle.px_horizontals.specs.Choices.{chosen}
use Rattle.px_horizontals.specs.Folds.{fold_row}
use Rattle.px_horizontals.specs.Inputs.{values_of_buffers, first_type}
use Rattle.px_horizontals.specs.declared.choices.Choice.TheVariants as choice
use Rattle.px_horizontals.proofs.HorizontalRows.{law_answer}
use Rattle.px_horizontals.proofs.Kernels.{some_buffers}
use Rattle.px_horizontals.proofs.Laws.{max_law}
use Rattle.px_horizontals.proofs.horizontals.max_horizontal_buffers.Goals as goal

pub returns : goal.returns
unfolding max_horizontal_rows
returns c =
    let columns = values_of_buffers c.args.inputs.now in
    let k = first_type columns in
    law_answer k k (fold_row (chosen choice.Greatest)) max_row (max_law k) values_of columns (some_buffers c.args.inputs.now c.requires.some) c.requires.same
    c.folded.result c.folded.ensures.typed c.folded.ensures.rows
