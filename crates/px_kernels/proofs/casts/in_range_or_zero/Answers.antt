use Rattle.std.proofs.Common.{◌∙◌, refl, rules, FitsSigned}
use Rattle.std.specs.Int.{w128}
use Rattle.std.proofs.lemmas.Int.{to_z-of_z}
use Rattle.px_kernels.proofs.CastRows.{in_range_some, in_range_none}
use Rattle.px_kernels.proofs.casts.in_range_or_zero.Goals as goal

pub returns-in-Some : goal.returns-in-Some
returns-in-Some g c =
    let f : FitsSigned w128 c.to_wide.result = search rules in
    in_range_some g.T.Integer.value_type (g.S.Integer.integer c.args.x) _ (g.T.Integer.integer c.in-Some.y) (to_z-of_z w128 c.to_wide.result f ∙ c.to_wide.ensures.value) c.in-Some.ensures.value (c.in-Some.ensures.inside.0 refl)

pub returns-in-None : goal.returns-in-None
returns-in-None g c =
    let f : FitsSigned w128 c.to_wide.result = search rules in
    in_range_none g.T.Integer.value_type (g.S.Integer.integer c.args.x) _ (g.T.Integer.integer c.zero.result) (to_z-of_z w128 c.to_wide.result f ∙ c.to_wide.ensures.value) c.zero.ensures.value (λ h. let none = c.in-None.ensures.inside.1 h in cc)
