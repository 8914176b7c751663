-- The weight of a tree is bounded by its nodes and its `not`s.
use Rattle.std.proofs.Common.{◌≡◌, ℕ, suc, ◌+◌, ◌*◌, ◌^◌, ◌<◌, ◌≤◌, ap, sym, subst, ◌∙◌, arith}
use Rattle.std.specs.Prelude.{max}
use Rattle.std.proofs.Math.Nat.{pow-suc}
use Rattle.std.proofs.Math.Pow.{pow_mono}
use Rattle.std.proofs.lemmas.Nat.{pow_pos}
use Rattle.px_functions.specs.declared.evaluated.EvaluatedBoolean.TheVariants as boolean
use Rattle.px_functions.specs.declared.evaluated.EvaluatedFunction.TheVariants as function
use Rattle.px_expr.specs.Tree.{Node, Binary, Function, Tree, tree, Trees, none, more, fold_trees}
use Rattle.px_meaning.specs.Rewriting.{Moves}
use Rattle.px_meaning.specs.Weight.{load_of, loaded, own_nots, count_nodes, nodes, nots, node_count, not_depth, weight, weights}
use Rattle.px_meaning.proofs.Weights.{sum-cons, weights-more, weights-moves}

-- so many nodes under so many `not`s weigh no more
abbrev Bounds : ℕ → ℕ → ℕ → Type 0
Bounds w n p = w ≤ 6 * n * p

bound-none : (p : ℕ) → Bounds 0 0 p
bound-none p = omega arith

bound-two : (w n p v m q r : ℕ) → Bounds w n p → Bounds v m q → p ≤ r → q ≤ r → Bounds (w + v) (n + m) r
bound-two w n p v m q r h i j k = grind arith

bound-adds : (w n p q j : ℕ) → Bounds w n p → 1 ≤ p → p ≤ q → j ≤ 6 → Bounds (w + j) (n + 1) q
bound-adds w n p q j h i k l = grind arith

bound-doubles : (w n p : ℕ) → Bounds w n p → 1 ≤ p → Bounds (max 1 (w + w)) (n + 1) (p * 2)
bound-doubles w n p h i = grind arith

bound-in : (w n p q : ℕ) → Bounds w n p → p ≡ q → Bounds w n q
bound-in w n p q h e = subst (λ (z : ℕ). Bounds w n z) e h

-- a node over inputs that are bounded so
node-bound : (n : Node) (w m k : ℕ) → Bounds w m (2 ^ k) → Bounds (loaded (load_of n) w) (m + 1) (2 ^ (k + own_nots n))
node-bound (Function (function.Boolean boolean.Not)) w m k h =
    let e : suc k ≡ k + 1 = omega arith in
    bound-in (max 1 (w + w)) (m + 1) (2 ^ k * 2) (2 ^ (k + 1)) (bound-doubles w m (2 ^ k) h (pow_pos k)) (sym (pow-suc 2 k) ∙ ap (λ (z : ℕ). 2 ^ z) e)
node-bound (Binary o) w m k h = bound-adds w m (2 ^ k) (2 ^ (k + 0)) 3 h (pow_pos k) (pow_mono (omega arith)) (omega arith)
node-bound (Function (function.Boolean boolean.IsNull)) w m k h = bound-adds w m (2 ^ k) (2 ^ (k + 0)) 1 h (pow_pos k) (pow_mono (omega arith)) (omega arith)
node-bound (Function (function.Boolean boolean.IsNotNull)) w m k h = bound-adds w m (2 ^ k) (2 ^ (k + 0)) 1 h (pow_pos k) (pow_mono (omega arith)) (omega arith)
node-bound (Function function.Negate) w m k h = bound-adds w m (2 ^ k) (2 ^ (k + 0)) 1 h (pow_pos k) (pow_mono (omega arith)) (omega arith)
node-bound (Function (function.Fused f)) w m k h = bound-adds w m (2 ^ k) (2 ^ (k + 0)) 1 h (pow_pos k) (pow_mono (omega arith)) (omega arith)
node-bound _ w m k h = bound-adds w m (2 ^ k) (2 ^ (k + 0)) 1 h (pow_pos k) (pow_mono (omega arith)) (omega arith)

mutual
  pub weight-bound : (t : Tree) → Bounds (weight t) (nodes t) (2 ^ nots t)
  weight-bound (tree n us) = node-bound n (weights us) (node_count us) (not_depth us) (weights-bound us)

  pub weights-bound : (us : Trees) → Bounds (weights us) (node_count us) (2 ^ not_depth us)
  weights-bound none = omega arith
  weights-bound (more u us) =
      let whole = bound-two (weight u) (nodes u) (2 ^ nots u) (weights us) (node_count us) (2 ^ not_depth us) (2 ^ not_depth (more u us))
      (weight-bound u) (weights-bound us) (pow_mono (omega arith)) (pow_mono (omega arith)) in
      subst (λ (w : ℕ). Bounds w (node_count (more u us)) (2 ^ not_depth (more u us))) (sym (weights-more u us))
      (subst (λ (n : ℕ). Bounds (weight u + weights us) n (2 ^ not_depth (more u us))) (sym (sum-cons (nodes u) (fold_trees count_nodes us))) whole)

pub moves-bound : (Rewrite : Tree → Tree → Type 0) → ((t u : Tree) → Rewrite t u → weight u < weight t) → (us vs : Trees) (r : ℕ) → Moves Rewrite us vs r → Bounds r (node_count us) (2 ^ not_depth us)
moves-bound Rewrite lighter us vs r moves =
    let lower : weights vs + r ≤ weights us = weights-moves Rewrite lighter us vs r moves in
    let bound : Bounds (weights us) (node_count us) (2 ^ not_depth us) = weights-bound us in
    below r (weights vs) (weights us) (6 * node_count us * 2 ^ not_depth us) lower bound
  where
    below : (r v w b : ℕ) → v + r ≤ w → w ≤ b → r ≤ b
    below r v w b h i = omega arith
