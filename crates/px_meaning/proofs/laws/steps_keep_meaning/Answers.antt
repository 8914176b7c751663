use Rattle.px_meaning.specs.Rewrites.{IsRewrite}
use Rattle.px_meaning.proofs.Lines.{IsRewrite-keeps}
use Rattle.px_meaning.proofs.Steps.{StepsTo-keeps}
use Rattle.px_meaning.proofs.laws.steps_keep_meaning.Goals as goal

pub returns : goal.returns
returns g = λ c context. StepsTo-keeps c context (IsRewrite c context) (IsRewrite-keeps c context)
