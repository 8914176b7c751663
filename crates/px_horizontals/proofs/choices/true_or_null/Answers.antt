use Rattle.std.proofs.Common.{◌∙◌}
use Rattle.std.proofs.lemmas.Result.{IfOk-weaker}
use Rattle.px_horizontals.proofs.Chosen.{or_null_are}
use Rattle.px_horizontals.proofs.choices.true_or_null.Goals as goal

pub returns : goal.returns
returns c =
    IfOk-weaker c.or.result _ _
    (λ f e. e ∙ or_null_are c.args.a.now c.valid.result.now c.in_ok-missing.missing c.truth.result.now c.valid.ensures c.in_ok-missing.ensures c.truth.ensures)
    c.or.ensures
