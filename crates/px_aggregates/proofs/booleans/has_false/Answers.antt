use Rattle.std.proofs.Common.{◌∙◌, ap, sym, nat_lt}
use Rattle.px_semantics.specs.Logic.{is_false}
use Rattle.px_aggregates.proofs.RowCounts.{any_counted}
use Rattle.px_aggregates.proofs.booleans.has_false.Goals as goal

pub returns : goal.returns
returns c = ap (nat_lt 0) c.false_count.ensures ∙ sym (any_counted is_false c.args.rows.now)
