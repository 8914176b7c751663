use Rattle.std.proofs.Common.{◌∙◌}
use Rattle.std.proofs.lemmas.Result.{IfOk-weaker}
use Rattle.px_horizontals.proofs.Chosen.{greatest_flags_are}
use Rattle.px_horizontals.proofs.choices.greatest_flags.Goals as goal

pub returns : goal.returns
returns c =
    IfOk-weaker c.or.result _ _ (λ f e. e ∙ greatest_flags_are c.args.a.now c.args.b.now c.truth.result.now c.truth-2.result.now c.truth.ensures c.truth-2.ensures)
    c.or.ensures
