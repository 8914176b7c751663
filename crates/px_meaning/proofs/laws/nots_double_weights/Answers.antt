use Rattle.std.proofs.Common.{refl}
use Rattle.px_meaning.proofs.laws.nots_double_weights.Goals as goal

pub returns-clause-before : goal.returns-clause-before
returns-clause-before g = refl

pub returns-clause-after : goal.returns-clause-after
returns-clause-after g = refl

pub returns-clause-nodes : goal.returns-clause-nodes
returns-clause-nodes g = refl

pub returns-clause-nots : goal.returns-clause-nots
returns-clause-nots g = refl
