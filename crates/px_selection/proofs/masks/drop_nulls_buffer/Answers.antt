use Rattle.std.proofs.Common.{◌∙◌, sym, ap, None, is_some, filter, length, map}
use Rattle.std.proofs.lemmas.List.{length-map}
use Rattle.std.proofs.lemmas.Result.{IfOk-weaker}
use Rattle.px_semantics.specs.Rows.{Row}
use Rattle.px_column.specs.ColumnOf.{type_of, rows_of}
use Rattle.px_selection.specs.Positions.{at_positions}
use Rattle.px_selection.proofs.Taken.{taken_where, where_test}
use Rattle.px_selection.proofs.Typed.{typed}
use Rattle.px_selection.proofs.masks.drop_nulls_buffer.Goals as goal

pub take_rows-requires : goal.take_rows-requires
take_rows-requires c = rw c.as_slice.ensures.value c.in_ok-positions.ensures.below_limit

pub returns-clause-rows : goal.returns-clause-rows
returns-clause-rows c =
    let rows = rows_of c.args.a.now in
    let none : Row = None in
    typed (type_of c.args.a.now) (filter is_some rows) c.take_rows.result c.take_rows.ensures.value_type
    (IfOk-weaker c.take_rows.result _ _
    (λ r e. e ∙ ap (at_positions none rows) (c.as_slice.ensures.value ∙ c.in_ok-positions.ensures.positions) ∙ taken_where none (map is_some rows) rows (length-map rows is_some) ∙ where_test is_some rows)
    c.take_rows.ensures.rows)
