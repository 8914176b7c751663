use Rattle.px_meaning.specs.Rewrites.{IsRewrite}
use Rattle.px_meaning.proofs.Lines.{IsRewrite-keeps}
use Rattle.px_meaning.proofs.Lists.{reached-answer, reached-faults}
use Rattle.px_meaning.proofs.laws.reached_lists_mean_the_same.Goals as goal

pub returns-clause-answer : goal.returns-clause-answer
returns-clause-answer g = λ c context ts us ways frame fits. reached-answer c context (IsRewrite c context) (IsRewrite-keeps c context) frame fits ts us ways

pub returns-clause-faults : goal.returns-clause-faults
returns-clause-faults g = λ c context us vs ways frame fits. reached-faults c context (IsRewrite c context) (IsRewrite-keeps c context) frame fits us vs ways
