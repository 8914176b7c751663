-- How weights grow with the inputs'.
use Rattle.std.proofs.Common.{◌≡◌, ℕ, ◌+◌, ◌≤◌, ◌<◌, arith}
use Rattle.std.proofs.lemmas.List.Sums.{sum_by-cons}
use Rattle.px_functions.specs.declared.evaluated.EvaluatedBoolean.TheVariants.{Not}
use Rattle.px_functions.specs.declared.evaluated.EvaluatedFunction.{EvaluatedFunction}
use Rattle.px_functions.specs.declared.evaluated.EvaluatedFunction.TheVariants as function
use Rattle.px_expr.specs.Tree.{Node as Root, Binary, Function, Tree, Trees, more, fold_trees}
use Rattle.px_meaning.specs.Weight.{Load, Doubles, Adds, load_of, function_load, loaded, node_weight, weight, weights}

-- the weight of a node over the sum of its inputs' weights
abbrev pub weigh : Root → ℕ → ℕ
weigh k n = loaded (load_of k) n

pub weights-more : (u : Tree) (us : Trees) → weights (more u us) ≡ weight u + weights us
weights-more u us = sum_by-cons (λ (y : ℕ). y) (weight u) (fold_trees node_weight us)

-- a node weighs more than its inputs together
function_above : (f : EvaluatedFunction) (n : ℕ) → n < loaded (function_load f) n
function_above (function.Boolean Not) n = omega arith
function_above _ n = omega arith

pub weigh_above : (k : Root) (n : ℕ) → n < weigh k n
weigh_above (Binary o) n = omega arith
weigh_above (Function f) n = function_above f n
weigh_above _ n = omega arith

-- lighter inputs make a lighter node
load_rises : (l : Load) (m n : ℕ) → m < n → loaded l m < loaded l n
load_rises Doubles m n h = omega arith
load_rises (Adds k) m n h = omega arith

load_rises_le : (l : Load) (m n : ℕ) → m ≤ n → loaded l m ≤ loaded l n
load_rises_le Doubles m n h = omega arith
load_rises_le (Adds k) m n h = omega arith

pub weigh_rises : (k : Root) (m n : ℕ) → m < n → weigh k m < weigh k n
weigh_rises k m n h = load_rises (load_of k) m n h

pub weigh_rises_le : (k : Root) (m n : ℕ) → m ≤ n → weigh k m ≤ weigh k n
weigh_rises_le k m n h = load_rises_le (load_of k) m n h
