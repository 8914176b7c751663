use Rattle.px_meaning.specs.Rewrites.{IsRewrite}
use Rattle.px_meaning.proofs.Lines.{IsRewrite-keeps}
use Rattle.px_meaning.proofs.Lists.{reached-checked}
use Rattle.px_meaning.proofs.laws.reached_lists_are_checked.Goals as goal

pub returns : goal.returns
returns g = λ c context ts us vs e ways. reached-checked c context (IsRewrite c context) (IsRewrite-keeps c context) ts vs us e ways
