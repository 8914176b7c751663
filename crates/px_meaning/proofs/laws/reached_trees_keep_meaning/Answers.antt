use Rattle.px_meaning.specs.Rewrites.{IsRewrite}
use Rattle.px_meaning.proofs.Lines.{IsRewrite-keeps}
use Rattle.px_meaning.proofs.Steps.{Reaches-keeps, Reaches-same}
use Rattle.px_meaning.proofs.Weights.{weight-reaches}
use Rattle.px_meaning.proofs.laws.reached_trees_keep_meaning.Goals as goal

pub returns-clause-value_type : goal.returns-clause-value_type
returns-clause-value_type g = λ c context t u way. (Reaches-keeps c context (IsRewrite c context) (IsRewrite-keeps c context) t u way).value_type

pub returns-clause-same : goal.returns-clause-same
returns-clause-same g = λ c context t u way frame fits. Reaches-same c context (IsRewrite c context) (IsRewrite-keeps c context) t u way frame fits

pub returns-clause-faults : goal.returns-clause-faults
returns-clause-faults g = λ c context t u way. (Reaches-keeps c context (IsRewrite c context) (IsRewrite-keeps c context) t u way).faults

pub returns-clause-weight : goal.returns-clause-weight
returns-clause-weight g = λ c context t u way. weight-reaches (IsRewrite c context) ((IsRewrite-keeps c context).lighter) t u way
