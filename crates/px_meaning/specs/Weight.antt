-- Weights of trees, which every rewrite lowers, and what bounds them: nodes and `not`s.
use Rattle.std.specs.Prelude.{ℕ, ◌+◌, List, [], ◌∷◌, max, sum}
use Rattle.px_functions.specs.declared.evaluated.EvaluatedBoolean.TheVariants.{Not}
use Rattle.px_functions.specs.declared.evaluated.EvaluatedFunction.{EvaluatedFunction}
use Rattle.px_functions.specs.declared.evaluated.EvaluatedFunction.TheVariants as function
use Rattle.px_expr.specs.Tree.{Node, Binary, Function, Tree, Trees, fold_tree, fold_trees}

-- what a node does with the weights of its inputs
pub data Load : Type 0 where
  Doubles : Load
  Adds : ℕ → Load

abbrev pub function_load : EvaluatedFunction → Load
function_load (function.Boolean Not) = Doubles
function_load _ = Adds 1

abbrev pub load_of : Node → Load
load_of (Binary o) = Adds 3
load_of (Function f) = function_load f
load_of _ = Adds 1

abbrev pub loaded : Load → ℕ → ℕ
loaded Doubles n = max 1 (n + n)
loaded (Adds k) n = n + k

abbrev pub node_weight : Node → List ℕ → ℕ
node_weight n weights = loaded (load_of n) (sum weights)

-- a leaf counts 1, a `not` twice its input, an operator the sum of its inputs and 3, every other node the sum
-- of its inputs and 1
abbrev pub weight : Tree → ℕ
weight = fold_tree node_weight

-- the weights of a list of trees together
abbrev pub weights : Trees → ℕ
weights us = sum (fold_trees node_weight us)

abbrev pub own_nots : Node → ℕ
own_nots (Function (function.Boolean Not)) = 1
own_nots _ = 0

-- the greatest of a list, 0 of none
abbrev pub greatest : List ℕ → ℕ
greatest [] = 0
greatest (n ∷ ns) = max n (greatest ns)

abbrev pub count_nodes : Node → List ℕ → ℕ
count_nodes n counts = sum counts + 1

abbrev pub count_nots : Node → List ℕ → ℕ
count_nots n counts = greatest counts + own_nots n

-- the number of nodes of a tree
abbrev pub nodes : Tree → ℕ
nodes = fold_tree count_nodes

-- the most `not`s on one path from the root
abbrev pub nots : Tree → ℕ
nots = fold_tree count_nots

-- the nodes of a list of trees together, and the most `not`s on one path in any of them
abbrev pub node_count : Trees → ℕ
node_count us = sum (fold_trees count_nodes us)

abbrev pub not_depth : Trees → ℕ
not_depth us = greatest (fold_trees count_nots us)
