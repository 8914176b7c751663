use Rattle.std.proofs.Common.{◌∙◌, ◌+ℤ◌, ◌*ℤ◌, ap}
use Rattle.px_types.proofs.Wrapping.{into-add_right}
use Rattle.px_types.specs.Integers.{into}
use Rattle.px_kernels.proofs.fusion.PlusProductForm.apply.Goals as goal

pub returns : goal.returns
returns g c =
    let n = g.T.Integer.integer in
    let value_type = g.T.Integer.value_type in
    c.plus.ensures ∙ ap (λ t. into value_type (n c.args.x +ℤ t)) c.times.ensures ∙ into-add_right value_type (n c.args.x) (n c.args.y *ℤ n c.args.z)
