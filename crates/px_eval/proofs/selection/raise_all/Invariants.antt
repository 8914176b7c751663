use Rattle.std.proofs.Common.{◌≡◌, List, map, take}
use Rattle.px_expr.specs.Tree.{Tree, tree_of}
use Rattle.px_eval.specs.Evaluated.{DenoteTrees}
use Rattle.px_eval.proofs.selection.raise_all.Given as goal

-- the expressions of the first roots
abbrev pub invariant-loop-i : goal.invariant-loop-i
invariant-loop-i l = (ts : List Tree) → DenoteTrees l.arena l.roots ts → map tree_of l.exprs.entries ≡ map (λ (t : Tree). t) (take l.i ts)
