use Rattle.std.proofs.Common.{rules, ◌≢◌, ◌∙◌, pos, sym}
use Rattle.px_integers.proofs.FloorDivision.{kept_rest, moved_rest}
use Rattle.px_integers.proofs.divide.floor_remainder.Goals as goal

pub returns-then-has_opposite_sign : goal.returns-then-has_opposite_sign
returns-then-has_opposite_sign g c =
    let n = g.T.Integer.integer in
    let nonzero : g.T.Integer.integer c.args.divisor ≢ pos 0 = search rules in
    c.plus.ensures
    ∙ moved_rest g.T.Integer.value_type (n c.args.dividend) (n c.args.divisor) (n c.truncated_remainder-remainder.result)
    nonzero c.truncated_remainder-remainder.ensures.range c.truncated_remainder-remainder.ensures.value
    (sym c.has_opposite_sign.ensures ∙ c.if-has_opposite_sign.true)

pub returns : goal.returns
returns g c =
    let n = g.T.Integer.integer in
    let nonzero : g.T.Integer.integer c.args.divisor ≢ pos 0 = search rules in
    kept_rest (n c.args.dividend) (n c.args.divisor) (n c.truncated_remainder-remainder.result)
    nonzero c.truncated_remainder-remainder.ensures.value
    (sym c.has_opposite_sign.ensures ∙ c.if-has_opposite_sign.false)
