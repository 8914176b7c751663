use Rattle.std.proofs.Common.{◌≡◌, ◌+◌, ◌∙◌, arith, ap, map, is_some, count_by, not}
use Rattle.px_semantics.specs.Logic.{is_true, is_false}
use Rattle.px_aggregates.proofs.RowCounts.{false_counted}
use Rattle.px_aggregates.proofs.booleans.false_count.Goals as goal

pub overflow_sub-result : goal.overflow_sub-result
overflow_sub-result c =
    let rows = c.args.rows.now in
    let all = c.zeros.ensures.count ∙ ap (count_by not) c.truth-2.ensures in
    let nulls = c.zeros-2.ensures.count ∙ ap (count_by not) c.valid.ensures in
    omega (arith, c.zeros.ensures.below_limit, all, nulls, false_counted rows c.len.ensures.typed)

pub returns : goal.returns
returns c =
    let rows = c.args.rows.now in
    let all = c.zeros.ensures.count ∙ ap (count_by not) c.truth-2.ensures in
    let nulls = c.zeros-2.ensures.count ∙ ap (count_by not) c.valid.ensures in
    omega (arith, c.zeros.ensures.below_limit, all, nulls, false_counted rows c.len.ensures.typed)
