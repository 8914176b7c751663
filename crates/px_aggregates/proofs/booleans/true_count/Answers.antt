use Rattle.std.proofs.Common.{arith, ap, length, count_by, not}
use Rattle.std.proofs.lemmas.List.{length-map}
use Rattle.px_semantics.specs.Logic.{is_true}
use Rattle.px_aggregates.proofs.RowCounts.{both_counted}
use Rattle.px_aggregates.proofs.booleans.true_count.Goals as goal

pub returns : goal.returns
returns c =
    let rows = c.args.rows.now in
    omega (arith, c.len.ensures.bits, c.zeros.ensures.count, c.zeros.ensures.below_limit, c.len.ensures.below_limit, ap length c.truth-truth.ensures, ap (count_by not) c.truth-truth.ensures, length-map rows is_true, both_counted is_true rows)
