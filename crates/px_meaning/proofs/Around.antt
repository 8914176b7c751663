-- What a rewrite keeps of the tree at a place it keeps of every tree around the place.
use Rattle.std.proofs.Common.{◌≡◌, List, ◌∷◌, refl, ◌∙◌, ap}
use Rattle.px_expr.specs.Tree.{Node, Tree, Trees, fold_tree, fold_trees}
use Rattle.px_meaning.specs.Rewriting.{StepsTo, at_top, at_input, InputStepsTo, in_first, in_rest, Reaches, stays, goes_on}

module _ {A : Type 0} (at : Node → List A → A) (Rewrite : Tree → Tree → Type 0) (keeps : (t u : Tree) → Rewrite t u → fold_tree at t ≡ fold_tree at u) where
  mutual
    pub fold_tree-step : (t u : Tree) → StepsTo Rewrite t u → fold_tree at t ≡ fold_tree at u
    fold_tree-step t u (at_top rewrite) = keeps t u rewrite
    fold_tree-step t u (at_input {n} {us} {us' = vs} step) = ap (at n) (fold_trees-step us vs step)

    pub fold_trees-step : (us vs : Trees) → InputStepsTo Rewrite us vs → fold_trees at us ≡ fold_trees at vs
    fold_trees-step us vs (in_first {u} {u' = v} {us = rest} step) = ap (λ (a : A). a ∷ fold_trees at rest) (fold_tree-step u v step)
    fold_trees-step us vs (in_rest {u} {us = xs} {us' = ys} step) = ap (λ (as' : List A). fold_tree at u ∷ as') (fold_trees-step xs ys step)

  pub fold_tree-reaches : (t u : Tree) → Reaches Rewrite t u → fold_tree at t ≡ fold_tree at u
  fold_tree-reaches t _ stays = refl
  fold_tree-reaches t u (goes_on {u = v} step rest) = fold_tree-step t v step ∙ fold_tree-reaches v u rest
