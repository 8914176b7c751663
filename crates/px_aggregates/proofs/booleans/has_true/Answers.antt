use Rattle.std.proofs.Common.{◌∙◌, ap, sym, nat_lt}
use Rattle.px_semantics.specs.Logic.{is_true}
use Rattle.px_aggregates.proofs.RowCounts.{any_counted}
use Rattle.px_aggregates.proofs.booleans.has_true.Goals as goal

pub returns : goal.returns
returns c = ap (nat_lt 0) c.true_count.ensures ∙ sym (any_counted is_true c.args.rows.now)
