use Rattle.std.proofs.Common.{◌∙◌, sym, ap, arith, None, get_or, not, length}
use Rattle.std.proofs.lemmas.List.Sums.{count_by-le-length}
use Rattle.std.proofs.lemmas.Result.{IfOk-weaker}
use Rattle.px_semantics.specs.Rows.{Row}
use Rattle.px_column.specs.ColumnOf.{rows_of}
use Rattle.px_selection.proofs.Taken.{where_same}
use Rattle.px_selection.proofs.masks.row_where_set.Goals as goal

pub overflow_sub-count : goal.overflow_sub-count
overflow_sub-count c = omega (arith, c.zeros.ensures.count, c.len.ensures.bits, count_by-le-length not c.args.mask.now)

pub returns-clause-rows : goal.returns-clause-rows
returns-clause-rows c =
    let row : Row = get_or (rows_of c.args.a.now) 0 None in
    IfOk-weaker c.repeated.result _ _
    (λ r e. e ∙ sym (where_same c.args.mask.now row _ (omega (arith, c.zeros.ensures.count, c.len.ensures.bits, count_by-le-length not c.args.mask.now))))
    c.repeated.ensures.rows
