-- Weights fall with every step and every move.
use Rattle.std.proofs.Common.{◌≡◌, ◌⊎◌, inl, inr, ℕ, ◌+◌, ◌<◌, ◌≤◌, List, ◌∷◌, refl, ap, arith}
use Rattle.std.specs.Prelude.{sum}
use Rattle.std.proofs.lemmas.List.Sums.{sum_by-cons}
use Rattle.px_expr.specs.Tree.{Node, Tree, tree, Trees, more, fold_trees}
use Rattle.px_meaning.specs.Rewriting.{StepsTo, at_top, at_input, InputStepsTo, in_first, in_rest, Reaches, stays, goes_on, Replaced, there, inside, ReplacedAll, ended, both, Moves, unmoved, moved}
use Rattle.px_meaning.specs.Weight.{Load, Doubles, Adds, load_of, loaded, node_weight, weight, weights}

pub sum-cons : (x : ℕ) (xs : List ℕ) → sum (x ∷ xs) ≡ x + sum xs
sum-cons x xs = sum_by-cons (λ (y : ℕ). y) x xs

pub weights-more : (u : Tree) (us : Trees) → weights (more u us) ≡ weight u + weights us
weights-more u us = sum-cons (weight u) (fold_trees node_weight us)

-- a load rises with what it bears
loaded-rises : (l : Load) (m n : ℕ) → m < n → loaded l m < loaded l n
loaded-rises Doubles m n h = omega arith
loaded-rises (Adds k) m n h = omega arith

-- a node over lighter inputs is lighter
pub weight-over : (n : Node) (us vs : Trees) → weights vs < weights us → weight (tree n vs) < weight (tree n us)
weight-over n us vs h = loaded-rises (load_of n) (weights vs) (weights us) h

module _ (Rewrite : Tree → Tree → Type 0) (lighter : (t u : Tree) → Rewrite t u → weight u < weight t) where
  mutual
    -- a step lowers the weight of the whole tree
    pub weight-step : (t u : Tree) → StepsTo Rewrite t u → weight u < weight t
    weight-step t u (at_top rewrite) = lighter t u rewrite
    weight-step t u (at_input {n} {us} {us' = vs} step) = weight-over n us vs (weights-step us vs step)

    weights-step : (us vs : Trees) → InputStepsTo Rewrite us vs → weights vs < weights us
    weights-step us vs (in_first {u} {u' = v} {us = rest} step) =
        let h : weight v < weight u = weight-step u v step in omega (arith, weights-more u rest, weights-more v rest)
    weights-step us vs (in_rest {u} {us = xs} {us' = ys} step) =
        let h : weights ys < weights xs = weights-step xs ys step in omega (arith, weights-more u xs, weights-more u ys)

  pub weight-reaches : (t u : Tree) → Reaches Rewrite t u → weight u ≤ weight t
  weight-reaches t _ stays = omega arith
  weight-reaches t u (goes_on {u = v} step rest) =
      let first : weight v < weight t = weight-step t v step in
      let later : weight u ≤ weight v = weight-reaches v u rest in
      omega arith

  mutual
    weight-replaced : (t t' : Tree) → Rewrite t t' → (u v : Tree) → Replaced t t' u v → (u ≡ v) ⊎ (weight v < weight u)
    weight-replaced t t' rewrite u v there = inr (lighter t t' rewrite)
    weight-replaced t t' rewrite u v (inside {n} {us} {us' = vs} all) =
        elim (weights-replaced t t' rewrite us vs all) [
          | inl e ↦ inl (ap (tree n) e)
          | inr h ↦ inr (weight-over n us vs h)
        ]

    weights-replaced : (t t' : Tree) → Rewrite t t' → (us vs : Trees) → ReplacedAll t t' us vs → (us ≡ vs) ⊎ (weights vs < weights us)
    weights-replaced t t' rewrite us vs ended = inl refl
    weights-replaced t t' rewrite us vs (both {u} {u' = v} {us = xs} {us' = ys} one all) =
        broadcast_length (weight-replaced t t' rewrite u v one) (weights-replaced t t' rewrite xs ys all)
      where
        broadcast_length : (u ≡ v) ⊎ (weight v < weight u) → (xs ≡ ys) ⊎ (weights ys < weights xs) → (more u xs ≡ more v ys) ⊎ (weights (more v ys) < weights (more u xs))
        broadcast_length (inl e) (inl f) = inl cc
        broadcast_length (inl e) (inr h) = let g : weight u ≡ weight v = ap weight e in inr (omega (arith, weights-more u xs, weights-more v ys))
        broadcast_length (inr h) (inl f) = let g : weights xs ≡ weights ys = ap weights f in inr (omega (arith, weights-more u xs, weights-more v ys))
        broadcast_length (inr h) (inr k) = inr (omega (arith, weights-more u xs, weights-more v ys))

  -- each move lowers the weight of the list
  pub weights-moves : (us vs : Trees) (r : ℕ) → Moves Rewrite us vs r → weights vs + r ≤ weights us
  weights-moves us _ _ unmoved = omega arith
  weights-moves us vs _ (moved {vs = ws} {r} t t' rewrite all differ rest) =
      let later : weights vs + r ≤ weights ws = weights-moves ws vs r rest in
      elim (weights-replaced t t' rewrite us ws all) [
        | inl e ↦ absurd (differ e)
        | inr h ↦ omega arith
      ]
