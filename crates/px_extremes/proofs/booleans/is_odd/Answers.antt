use Rattle.std.proofs.Common.{◌∙◌, sym}
use Rattle.px_extremes.proofs.BooleanReductions.{xor_counted, xor_none}
use Rattle.px_extremes.proofs.booleans.is_odd.Goals as goal

pub returns-then-has_value : goal.returns-then-has_value
returns-then-has_value c =
    xor_counted c.args.rows.now c.true_count.result c.len.ensures.typed c.true_count.ensures (sym c.has_value.ensures ∙ c.if-has_value.true)

pub returns : goal.returns
returns c = xor_none c.args.rows.now (sym c.has_value.ensures ∙ c.if-has_value.false)
