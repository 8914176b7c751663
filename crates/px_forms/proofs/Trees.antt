-- The trees of expressions, and how large they are.
use Rattle.std.proofs.Common.{◌≡◌, ℕ, suc, ◌≤◌, ◌<◌, zero, List, [], ◌∷◌, map, length, get_or, sum, refl, sym, ap, ◌∙◌, arith}
use Rattle.px_base.specs.declared.list.List.{List as Entries}
use Rattle.px_types.specs.declared.dtype.DataType.{DataType}
use Rattle.px_functions.specs.declared.function.FunctionExpr.{FunctionExpr}
use Rattle.px_types.specs.declared.type_parts.CastOptions.{CastOptions}
use Rattle.px_types.specs.declared.operator.Operator.{Operator}
use Rattle.px_types.specs.declared.options.FunctionOptions.{FunctionOptions}
use Rattle.px_expr.specs.declared.literal.LiteralValue.{LiteralValue}
use Rattle.px_expr.specs.declared.expr.Expr.{Expr, fold-roll-Expr}
use Rattle.px_expr.specs.declared.expr.Expr.TheVariants as expr
use Rattle.px_expr.specs.declared.expr.AggExpr.TheOpen.{Expr-F}
use Rattle.px_meaning.proofs.Weights.{sum-cons}
use Rattle.px_expr.specs.Tree.{Aggregate, Node, function_node, Tree, trees, over, agg_layer, layer, tree_of, fold_tree, fold_trees}

pub tree_of-Alias : (e : Expr) (name : List ℕ) → tree_of (expr.Alias e name) ≡ over (Node.Alias name) (tree_of e ∷ [])
tree_of-Alias e name = ap tree_of (sym (expr.rolls-Alias e name)) ∙ fold-roll-Expr (Aggregate × List Tree) Tree agg_layer layer (Expr-F.Alias e name)

pub tree_of-Column : (name : List ℕ) → tree_of (expr.Column name) ≡ over (Node.Column name) []
tree_of-Column name = ap tree_of (sym (expr.rolls-Column name)) ∙ fold-roll-Expr (Aggregate × List Tree) Tree agg_layer layer (Expr-F.Column name)

pub tree_of-Literal : (v : LiteralValue) → tree_of (expr.Literal v) ≡ over (Node.Literal v) []
tree_of-Literal v = ap tree_of (sym (expr.rolls-Literal v)) ∙ fold-roll-Expr (Aggregate × List Tree) Tree agg_layer layer (Expr-F.Literal v)

pub tree_of-BinaryExpr : (l : Expr) (op : Operator) (r : Expr) → tree_of (expr.BinaryExpr l op r) ≡ over (Node.Binary op) (tree_of l ∷ tree_of r ∷ [])
tree_of-BinaryExpr l op r = ap tree_of (sym (expr.rolls-BinaryExpr l op r)) ∙ fold-roll-Expr (Aggregate × List Tree) Tree agg_layer layer (Expr-F.BinaryExpr l op r)

pub tree_of-Cast : (e : Expr) (dtype : DataType) (options : CastOptions) → tree_of (expr.Cast e dtype options) ≡ over (Node.Cast dtype options) (tree_of e ∷ [])
tree_of-Cast e dtype options = ap tree_of (sym (expr.rolls-Cast e dtype options)) ∙ fold-roll-Expr (Aggregate × List Tree) Tree agg_layer layer (Expr-F.Cast e dtype options)

pub tree_of-Ternary : (p t f : Expr) → tree_of (expr.Ternary p t f) ≡ over Node.Ternary (tree_of p ∷ tree_of t ∷ tree_of f ∷ [])
tree_of-Ternary p t f = ap tree_of (sym (expr.rolls-Ternary p t f)) ∙ fold-roll-Expr (Aggregate × List Tree) Tree agg_layer layer (Expr-F.Ternary p t f)

pub tree_of-Function : (es : Entries Expr) (f : FunctionExpr) (options : FunctionOptions) → tree_of (expr.Function es f options) ≡ over (function_node f) (map tree_of es.entries)
tree_of-Function es f options = ap tree_of (sym (expr.rolls-Function es f options)) ∙ fold-roll-Expr (Aggregate × List Tree) Tree agg_layer layer (Expr-F.Function es f options)

-- a fold over the inputs goes input by input
pub fold_trees-trees : {A : Type 0} (at : Node → List A → A) (ts : List Tree) → fold_trees at (trees ts) ≡ map (fold_tree at) ts
fold_trees-trees at [] = refl
fold_trees-trees at (t ∷ ts) = ap (λ as'. fold_tree at t ∷ as') (fold_trees-trees at ts)

-- how many nodes a tree has, and the trees of a list
abbrev pub size_at : Node → List ℕ → ℕ
size_at n sizes = suc (sum sizes)

abbrev pub size_of : Tree → ℕ
size_of = fold_tree size_at

abbrev pub sizes_of : List Tree → ℕ
sizes_of ts = sum (fold_trees size_at (trees ts))

first_within : (n : ℕ) (ns : List ℕ) → n ≤ sum (n ∷ ns)
first_within n ns = omega (arith, sum-cons n ns)

later_within : (n m : ℕ) (ns : List ℕ) → n ≤ sum ns → n ≤ sum (m ∷ ns)
later_within n m ns h = omega (arith, sum-cons m ns)

-- an expression of a list is no larger than all of them
size_within : (es : List Expr) (i : ℕ) (e : Expr) → i < length es → size_of (tree_of (get_or es i e)) ≤ sizes_of (map tree_of es)
size_within [] i e h = absurd (omega arith)
size_within (f ∷ es) zero e h = first_within (size_of (tree_of f)) (fold_trees size_at (trees (map tree_of es)))
size_within (f ∷ es) (suc i) e h =
    later_within (size_of (tree_of (get_or es i e))) (size_of (tree_of f)) (fold_trees size_at (trees (map tree_of es))) (size_within es i e (omega arith))

pub size_of_item : (es : List Expr) (i : ℕ) (e : Expr) → i < length es → e ≡ get_or es i e → size_of (tree_of e) ≤ sizes_of (map tree_of es)
size_of_item es i e h is = omega (arith, size_within es i e h, ap (λ (f : Expr). size_of (tree_of f)) is)
