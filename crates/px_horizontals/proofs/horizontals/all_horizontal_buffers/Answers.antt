use Rattle.std.proofs.Common.{false}
use Rattle.px_semantics.specs.Aggregates.{all_row}
use Rattle.px_semantics.specs.Horizontals.{all_horizontal_rows}
use Rattle.px_semantics.specs.Logic.{and_row}
use Rattle.px_column.specs.Buffers.{values_of}
use Rattle.px_horizontals.specs.Folds.{fold_row}
use Rattle.px_horizontals.specs.Inputs.{values_of_buffers}
use Rattle.px_horizontals.proofs.Kernels.{some_buffers, boolean_answer}
use Rattle.px_horizontals.proofs.Laws.{all_law}
use Rattle.px_horizontals.proofs.horizontals.all_horizontal_buffers.Goals as goal

pub returns : goal.returns
unfolding all_horizontal_rows
returns c =
    let columns = values_of_buffers c.args.inputs.now in
    boolean_answer values_of (fold_row and_row) (all_row false) all_law columns (some_buffers c.args.inputs.now c.requires.some) c.requires.boolean
    c.folded.result c.folded.ensures.typed c.folded.ensures.rows
