use Rattle.std.proofs.Common.{◌∙◌, ◌&&◌, sym, not, true, false, Some, None, is_none}
use Rattle.std.specs.List.{list_any}
use Rattle.px_semantics.specs.Logic.{is_true}
use Rattle.px_semantics.specs.Rows.{BooleanValue}
use Rattle.px_aggregates.proofs.RowCounts.{first_decides, second_decides, neither_decides}
use Rattle.px_aggregates.proofs.booleans.any_value.Goals as goal

pub returns-then-has_true : goal.returns-then-has_true
returns-then-has_true c =
    let rows = c.args.rows.now in
    first_decides (list_any is_true rows) (not c.args.ignore_nulls && list_any is_none rows) (Some (BooleanValue true)) None (Some (BooleanValue false)) (sym c.has_true.ensures ∙ c.if-has_true.true)

pub returns-then-is_unknown : goal.returns-then-is_unknown
returns-then-is_unknown c =
    let rows = c.args.rows.now in
    second_decides (list_any is_true rows) (not c.args.ignore_nulls && list_any is_none rows) (Some (BooleanValue true)) None (Some (BooleanValue false)) (sym c.has_true.ensures ∙ c.if-has_true.false) (sym c.is_unknown.ensures ∙ c.if-is_unknown.true)

pub returns : goal.returns
returns c =
    let rows = c.args.rows.now in
    neither_decides (list_any is_true rows) (not c.args.ignore_nulls && list_any is_none rows) (Some (BooleanValue true)) None (Some (BooleanValue false)) (sym c.has_true.ensures ∙ c.if-has_true.false) (sym c.is_unknown.ensures ∙ c.if-is_unknown.false)
