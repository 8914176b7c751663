use Rattle.px_meaning.proofs.Lines.{IsRewrite-keeps}
use Rattle.px_meaning.proofs.laws.rewrites_keep_meaning.Goals as goal

pub returns : goal.returns
returns g = λ c context. IsRewrite-keeps c context
