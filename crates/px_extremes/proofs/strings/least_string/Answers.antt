use Rattle.std.proofs.Common.{◌≡◌, ◌∙◌, ◌<◌, ◌≤◌, sym, ap, arith, get_or, length, None}
use Rattle.std.specs.List.{fold}
use Rattle.std.proofs.lemmas.List.{take_all}
use Rattle.std.proofs.lemmas.List.Sums.{fold_more}
use Rattle.px_types.specs.declared.value_type.ValueType.TheVariants.{String}
use Rattle.px_extremes.specs.Choices.{lesser}
use Rattle.px_extremes.proofs.ExtremeRows.{min_row_fold}
use Rattle.px_extremes.proofs.strings.least_string.Goals as goal

pub loop-i-preserved : goal.loop-i-preserved
loop-i-preserved c =
    let rows = c.args.rows.now in
    let i = c.loop-i.i in
    let below : i < length rows = omega (arith, c.len-i-end.ensures.rows) in
    (rw c.get.ensures at c.lesser_string-least.ensures) ∙ ap (λ r. lesser r (get_or rows i None)) c.loop-i.invariant ∙ sym (fold_more lesser None rows i None below)

pub returns : goal.returns
returns c =
    let rows = c.args.rows.now in
    let all : length rows ≤ c.loop-i.i = omega (arith, c.len-i-end.ensures.rows) in
    c.loop-i.invariant ∙ ap (fold lesser None) (take_all c.loop-i.i rows all) ∙ sym (min_row_fold String rows c.len-i-end.ensures.typed)
