use Rattle.px_arena.proofs.Raises.{raised_tree}
use Rattle.px_arena.proofs.raising.raise.Goals as goal

pub returns-clause-tree : goal.returns-clause-tree
returns-clause-tree c = raised_tree c.args.arena.now c.args.node.0 c.raise_expr.result c.raise_expr.ensures.stands
