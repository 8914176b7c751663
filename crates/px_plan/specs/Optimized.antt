-- Rewritten expressions as contracts see them.
use Rattle.std.specs.Prelude.{◌≡◌, ℕ, List, map, Result, Ok}
use Rattle.px_base.specs.declared.error.PlanError.{PlanError}
use Rattle.px_expr.specs.Tree.{Tree, Trees, trees, tree_of}
use Rattle.px_meaning.specs.Check.{Typed}
use Rattle.px_check.specs.CheckedTree.{CheckedTree}
use Rattle.px_arena.specs.declared.node.AExpr.{AExpr}
use Rattle.px_arena.specs.declared.node.Node.{Node}
use Rattle.px_arena.specs.Denotes.{DenoteAll}
use Rattle.px_rules.specs.Plan.{places}

-- an arena, the places of its roots, and how many rewrites led there
pub record Rewritten : Type 0 where
  pub arena : List AExpr
  pub roots : List Node
  pub rewrites : ℕ

-- the trees of checked expressions, in order
abbrev pub trees_of : List CheckedTree → Trees
trees_of hs = trees (map (λ (h : CheckedTree). tree_of h.tree) hs)

abbrev pub typed_trees : List Typed → Trees
typed_trees ts = trees (map (λ (t : Typed). t.tree) ts)

-- the roots denote the trees, in order
abbrev pub RootsDenote : Rewritten → Trees → Type 0
RootsDenote o us = DenoteAll o.arena (places o.roots) us

-- the trees that the check gave are so related to those that the roots denote
abbrev pub FromChecked : Result (List Typed) PlanError → (Trees → Trees → Type 0) → Rewritten → Type 0
FromChecked checked Related o = (ts : List Typed) (us : Trees) → checked ≡ Ok ts → RootsDenote o us → Related (typed_trees ts) us
