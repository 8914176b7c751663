use Rattle.std.proofs.Common.{◌∙◌, ap}
use Rattle.px_base.proofs.Answers.{gives_value}
use Rattle.px_base.specs.declared.error.PlanError.TheVariants.{ShapeMismatch}
use Rattle.px_semantics.specs.Horizontals.{sum_horizontal_rows}
use Rattle.px_semantics.specs.Rows.{Contents}
use Rattle.px_horizontals.specs.Inputs.{values_of_buffers, first_type}
use Rattle.px_horizontals.proofs.sums.sum_horizontal.Goals as goal

pub returns-clause-rows : goal.returns-clause-rows
returns-clause-rows c =
    gives_value ShapeMismatch (λ (d : Contents). d.values) c.named.result _ _ c.named.ensures
    (c.in_ok-buffer.ensures
    ∙ ap (λ columns. sum_horizontal_rows (first_type columns) c.args.ignore_nulls columns) (ap values_of_buffers c.as_slice.ensures.value ∙ c.in_ok-buffers.ensures))
