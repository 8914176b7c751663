use Rattle.std.proofs.Common.{◌∙◌, ◌-ℤ◌, ◌*ℤ◌, ap}
use Rattle.px_types.proofs.Wrapping.{into-sub_left}
use Rattle.px_types.specs.Integers.{into}
use Rattle.px_kernels.proofs.fusion.ProductMinusForm.apply.Goals as goal

pub returns : goal.returns
returns g c =
    let n = g.T.Integer.integer in
    let value_type = g.T.Integer.value_type in
    c.minus.ensures ∙ ap (λ t. into value_type (t -ℤ n c.args.z)) c.times.ensures ∙ into-sub_left value_type (n c.args.x *ℤ n c.args.y) (n c.args.z)
