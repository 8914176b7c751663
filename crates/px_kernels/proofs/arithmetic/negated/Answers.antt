use Rattle.std.proofs.Common.{◌∙◌, ◌-ℤ◌, ap}
use Rattle.px_types.specs.Integers.{into}
use Rattle.px_kernels.proofs.Negations.{zero_minus}
use Rattle.px_kernels.proofs.arithmetic.negated.Goals as goal

pub returns : goal.returns
returns g c =
    let k = g.T.Integer.value_type in
    let z = g.T.Integer.integer c.args.x in
    c.minus.ensures ∙ ap (λ y. into k (y -ℤ z)) c.zero.ensures.value ∙ ap (into k) (zero_minus z)
