use Rattle.std.proofs.Common.{◌∙◌, ◌-◌, ap, arith, length, reverse, None}
use Rattle.std.proofs.lemmas.List.FromFn.{length-map-range_with_len}
use Rattle.std.proofs.lemmas.Result.{IfOk-weaker}
use Rattle.px_semantics.specs.Rows.{Row}
use Rattle.px_column.specs.ColumnOf.{type_of, rows_of}
use Rattle.px_selection.specs.Positions.{at_positions}
use Rattle.px_selection.proofs.Taken.{reversed_taken}
use Rattle.px_selection.proofs.Typed.{typed}
use Rattle.px_selection.proofs.order.reverse_buffer.Goals as goal

pub take_rows-requires : goal.take_rows-requires
take_rows-requires c =
    let n = c.len.result in
    omega (arith, ap length (c.as_slice.ensures.value ∙ c.in_ok-positions.ensures), length-map-range_with_len (λ i. n - 1 - i) 0 n)

pub returns-clause-rows : goal.returns-clause-rows
returns-clause-rows c =
    let rows = rows_of c.args.a.now in
    let none : Row = None in
    typed (type_of c.args.a.now) (reverse rows) c.take_rows.result c.take_rows.ensures.value_type
    (IfOk-weaker c.take_rows.result _ _
    (λ r e. e ∙ ap (at_positions none rows) (c.as_slice.ensures.value ∙ c.in_ok-positions.ensures) ∙ reversed_taken none rows c.len.result c.len.ensures.rows)
    c.take_rows.ensures.rows)
