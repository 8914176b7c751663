use Rattle.std.proofs.Common.{false}
use Rattle.px_semantics.specs.Aggregates.{any_row}
use Rattle.px_semantics.specs.Horizontals.{any_horizontal_rows}
use Rattle.px_semantics.specs.Logic.{or_row}
use Rattle.px_column.specs.Buffers.{values_of}
use Rattle.px_horizontals.specs.Folds.{fold_row}
use Rattle.px_horizontals.specs.Inputs.{values_of_buffers}
use Rattle.px_horizontals.proofs.Kernels.{some_buffers, boolean_answer}
use Rattle.px_horizontals.proofs.Laws.{any_law}
use Rattle.px_horizontals.proofs.horizontals.any_horizontal_buffers.Goals as goal

pub returns : goal.returns
unfolding any_horizontal_rows
returns c =
    let columns = values_of_buffers c.args.inputs.now in
    boolean_answer values_of (fold_row or_row) (any_row false) any_law columns (some_buffers c.args.inputs.now c.requires.some) c.requires.boolean
    c.folded.result c.folded.ensures.typed c.folded.ensures.rows
