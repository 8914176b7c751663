use Rattle.std.proofs.Common.{◌∙◌, rules, FitsSigned}
use Rattle.std.specs.Int.{w128}
use Rattle.std.proofs.lemmas.Int.{to_z-of_z}
use Rattle.px_kernels.proofs.CastRows.{in_range_test}
use Rattle.px_kernels.proofs.casts.is_in_range.Goals as goal

pub returns : goal.returns
returns g c =
    let f : FitsSigned w128 c.to_wide.result = search rules in
    in_range_test g.T.Integer.value_type (g.S.Integer.integer c.args.x) _ c.is_some.result (to_z-of_z w128 c.to_wide.result f ∙ c.to_wide.ensures.value)
    (rw c.is_some.ensures c.from_wide.ensures.inside.0) (rw c.is_some.ensures c.from_wide.ensures.inside.1)
