use Rattle.px_meaning.specs.Rewrites.{IsRewrite}
use Rattle.px_meaning.proofs.Lines.{IsRewrite-keeps}
use Rattle.px_meaning.proofs.Weights.{weights-moves}
use Rattle.px_meaning.proofs.laws.moves_lower_weight.Goals as goal

pub returns : goal.returns
returns g = λ c context us vs r moves. weights-moves (IsRewrite c context) ((IsRewrite-keeps c context).lighter) us vs r moves
