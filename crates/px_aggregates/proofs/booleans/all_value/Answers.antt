use Rattle.std.proofs.Common.{◌∙◌, ◌&&◌, sym, not, true, false, Some, None, is_none}
use Rattle.std.specs.List.{list_any}
use Rattle.px_semantics.specs.Logic.{is_false}
use Rattle.px_semantics.specs.Rows.{BooleanValue}
use Rattle.px_aggregates.proofs.RowCounts.{first_decides, second_decides, neither_decides}
use Rattle.px_aggregates.proofs.booleans.all_value.Goals as goal

pub returns-then-has_false : goal.returns-then-has_false
returns-then-has_false c =
    let rows = c.args.rows.now in
    first_decides (list_any is_false rows) (not c.args.ignore_nulls && list_any is_none rows) (Some (BooleanValue false)) None (Some (BooleanValue true)) (sym c.has_false.ensures ∙ c.if-has_false.true)

pub returns-then-is_unknown : goal.returns-then-is_unknown
returns-then-is_unknown c =
    let rows = c.args.rows.now in
    second_decides (list_any is_false rows) (not c.args.ignore_nulls && list_any is_none rows) (Some (BooleanValue false)) None (Some (BooleanValue true)) (sym c.has_false.ensures ∙ c.if-has_false.false) (sym c.is_unknown.ensures ∙ c.if-is_unknown.true)

pub returns : goal.returns
returns c =
    let rows = c.args.rows.now in
    neither_decides (list_any is_false rows) (not c.args.ignore_nulls && list_any is_none rows) (Some (BooleanValue false)) None (Some (BooleanValue true)) (sym c.has_false.ensures ∙ c.if-has_false.false) (sym c.is_unknown.ensures ∙ c.if-is_unknown.false)
