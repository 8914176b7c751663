use Rattle.std.proofs.Common.{◌≡◌, ◌∙◌, ◌<◌, ◌≤◌, sym, arith, below_more, length, option_map}
use Rattle.std.specs.Option.{option_copied}
use Rattle.px_semantics.specs.Comparisons.{equal, both_pass}
use Rattle.px_semantics.specs.Rows.{string_row}
use Rattle.px_extremes.proofs.Positions.{position_found, position_none}
use Rattle.px_extremes.proofs.places.string_place.Goals as goal

pub loop-i-preserved : goal.loop-i-preserved
loop-i-preserved c = below_more _ _ c.loop-i.invariant (sym (rw c.get.ensures at c.same_string.ensures) ∙ c.if-same_string.false)

pub returns-then-same_string : goal.returns-then-same_string
returns-then-same_string c =
    let rows = c.args.rows.now in
    let below : c.loop-i.i < length rows = omega (arith, c.len-i-end.ensures.rows) in
    position_found (λ row. both_pass equal row (string_row (option_copied c.args.value))) rows c.loop-i.i below c.loop-i.invariant (sym (rw c.get.ensures at c.same_string.ensures) ∙ c.if-same_string.true)

pub returns : goal.returns
returns c =
    let rows = c.args.rows.now in
    let all : length rows ≤ c.loop-i.i = omega (arith, c.len-i-end.ensures.rows) in
    position_none (λ row. both_pass equal row (string_row (option_copied c.args.value))) rows c.loop-i.i all c.loop-i.invariant
