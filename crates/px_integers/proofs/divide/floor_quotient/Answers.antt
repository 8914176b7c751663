use Rattle.std.proofs.Common.{rules, ◌≢◌, ◌∙◌, ◌+ℤ◌, pos, ap, sym}
use Rattle.px_types.specs.Integers.{into}
use Rattle.px_integers.proofs.FloorDivision.{kept_quotient, moved_quotient}
use Rattle.px_integers.proofs.divide.floor_quotient.Goals as goal

pub returns-then-has_opposite_sign : goal.returns-then-has_opposite_sign
returns-then-has_opposite_sign g c =
    let n = g.T.Integer.integer in
    let nonzero : g.T.Integer.integer c.args.divisor ≢ pos 0 = search rules in
    c.plus.ensures
    ∙ ap (λ z. into g.T.Integer.value_type (n c.truncated_quotient-quotient.result +ℤ z)) c.bits_not.ensures
    ∙ moved_quotient g.T.Integer.value_type (n c.args.dividend) (n c.args.divisor) (n c.zero-zero.result) (n c.truncated_quotient-quotient.result) (n c.truncated_remainder-remainder.result)
    nonzero c.zero-zero.ensures.value c.zero-zero.ensures.inside c.truncated_quotient-quotient.ensures c.truncated_remainder-remainder.ensures.value
    (sym c.has_opposite_sign.ensures ∙ c.if-has_opposite_sign.true)

pub returns : goal.returns
returns g c =
    let n = g.T.Integer.integer in
    let nonzero : g.T.Integer.integer c.args.divisor ≢ pos 0 = search rules in
    kept_quotient g.T.Integer.value_type (n c.args.dividend) (n c.args.divisor) (n c.truncated_quotient-quotient.result) (n c.truncated_remainder-remainder.result)
    nonzero c.truncated_quotient-quotient.ensures c.truncated_remainder-remainder.ensures.value
    (sym c.has_opposite_sign.ensures ∙ c.if-has_opposite_sign.false)
