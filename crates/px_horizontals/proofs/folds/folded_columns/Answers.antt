use Rattle.std.proofs.Common.{◌∙◌, ap}
use Rattle.px_base.proofs.Answers.{gives_value}
use Rattle.px_base.specs.declared.error.PlanError.TheVariants.{ShapeMismatch}
use Rattle.px_semantics.specs.Horizontals.{horizontal_rows}
use Rattle.px_semantics.specs.Rows.{Contents}
use Rattle.px_horizontals.specs.Folds.{fold_row}
use Rattle.px_horizontals.specs.Inputs.{values_of_buffers, first_type}
use Rattle.px_horizontals.proofs.folds.folded_columns.Goals as goal

pub returns-clause-rows : goal.returns-clause-rows
returns-clause-rows g c =
    gives_value ShapeMismatch (λ (d : Contents). d.values) c.named.result _ _ c.named.ensures
    (c.in_ok-buffer.ensures.rows
    ∙ ap (λ columns. horizontal_rows (first_type columns) (fold_row (g.F.Fold.step (first_type columns))) columns) (ap values_of_buffers c.as_slice.ensures.value ∙ c.in_ok-buffers.ensures))
