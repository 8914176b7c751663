use Rattle.px_expr.specs.Tree.{none, more}
use Rattle.px_meaning.specs.Rewrites.{IsRewrite}
use Rattle.px_meaning.proofs.Leads.{Moves-reach}
use Rattle.px_meaning.proofs.laws.moves_reach.Goals as goal

pub returns-clause-each : goal.returns-clause-each
returns-clause-each g = λ c context us vs r moves. Moves-reach (IsRewrite c context) us vs r moves

pub returns-clause-one : goal.returns-clause-one
returns-clause-one g = λ c context t u r moves. (Moves-reach (IsRewrite c context) (more t none) (more u none) r moves).0
