use Rattle.px_meaning.specs.Rewrites.{IsRewrite}
use Rattle.px_meaning.proofs.Bounds.{weights-bound, moves-bound}
use Rattle.px_meaning.proofs.Lines.{IsRewrite-keeps}
use Rattle.px_meaning.proofs.laws.moves_are_bounded.Goals as goal

pub returns-clause-weight : goal.returns-clause-weight
returns-clause-weight g = weights-bound

pub returns-clause-moves : goal.returns-clause-moves
returns-clause-moves g = λ c context us vs r moves. moves-bound (IsRewrite c context) ((IsRewrite-keeps c context).lighter) us vs r moves
