use Rattle.std.proofs.Common.{◌∙◌, sym, false}
use Rattle.std.specs.List.{list_any}
use Rattle.px_semantics.specs.Logic.{is_true, is_false}
use Rattle.px_extremes.proofs.BooleanReductions.{decided_first, decided_second, decided_none, min_decided, and_decided}
use Rattle.px_extremes.proofs.booleans.least_boolean.Goals as goal

pub returns-then-has_false : goal.returns-then-has_false
returns-then-has_false c =
    let rows = c.args.rows.now in
    let is = decided_first false (list_any is_false rows) (list_any is_true rows) (sym c.has_false.ensures ∙ c.if-has_false.true) in
    record { least = is ∙ min_decided rows c.len.ensures.typed; bits = is ∙ and_decided rows c.len.ensures.typed }

pub returns-then-has_true : goal.returns-then-has_true
returns-then-has_true c =
    let rows = c.args.rows.now in
    let is = decided_second false (list_any is_false rows) (list_any is_true rows) (sym c.has_false.ensures ∙ c.if-has_false.false) (sym c.has_true.ensures ∙ c.if-has_true.true) in
    record { least = is ∙ min_decided rows c.len.ensures.typed; bits = is ∙ and_decided rows c.len.ensures.typed }

pub returns : goal.returns
returns c =
    let rows = c.args.rows.now in
    let is = decided_none false (list_any is_false rows) (list_any is_true rows) (sym c.has_false.ensures ∙ c.if-has_false.false) (sym c.has_true.ensures ∙ c.if-has_true.false) in
    record { least = is ∙ min_decided rows c.len.ensures.typed; bits = is ∙ and_decided rows c.len.ensures.typed }
