use Rattle.std.proofs.Common.{◌∙◌, ap, None}
use Rattle.std.proofs.lemmas.Result.{IfOk-weaker}
use Rattle.px_semantics.specs.Rows.{Row}
use Rattle.px_column.specs.ColumnOf.{rows_of}
use Rattle.px_selection.specs.Positions.{at_positions}
use Rattle.px_selection.proofs.Taken.{taken_where}
use Rattle.px_selection.proofs.masks.rows_where_set.Goals as goal

pub take_rows-requires : goal.take_rows-requires
take_rows-requires c = rw c.as_slice.ensures.value c.in_ok-positions.ensures.below_limit

pub returns-clause-rows : goal.returns-clause-rows
returns-clause-rows c =
    let rows = rows_of c.args.a.now in
    let none : Row = None in
    IfOk-weaker c.take_rows.result _ _
    (λ r e. e ∙ ap (at_positions none rows) (c.as_slice.ensures.value ∙ c.in_ok-positions.ensures.positions) ∙ taken_where none c.args.mask.now rows c.requires)
    c.take_rows.ensures.rows
