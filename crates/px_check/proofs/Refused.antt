-- Nodes that have no signature are refused, after the faults of their inputs.
use Rattle.std.proofs.Common.{◌≡◌, ℕ, Bool, List, [], ◌∷◌, Result, sym, ap, subst, ◌∙◌}
use Rattle.px_base.specs.Answer.{AnswersOrMemory}
use Rattle.px_base.specs.declared.error.PlanError.{PlanError}
use Rattle.px_types.specs.declared.type_parts.QuantileMethod.{QuantileMethod}
use Rattle.px_expr.specs.declared.expr.Expr.{Expr, fold-roll-Expr}
use Rattle.px_expr.specs.declared.expr.Expr.TheVariants as expr
use Rattle.px_expr.specs.declared.expr.AggExpr.{AggExpr, fold-AggExpr, fold-roll-AggExpr}
use Rattle.px_expr.specs.declared.expr.AggExpr.TheVariants as agg
use Rattle.px_expr.specs.declared.expr.AggExpr.TheOpen.{Expr-F, AggExpr-F}
use Rattle.px_expr.specs.Plan.{Catalog}
use Rattle.px_expr.specs.Tree.{Tree, trees, fold_trees, tree_of, over, Aggregate, agg_layer, layer}
use Rattle.px_expr.specs.Tree as root
use Rattle.px_meaning.specs.Check as check
use Rattle.px_meaning.specs.Check.{find, found}
use Rattle.px_meaning.specs.Signatures.{signature}
use Rattle.px_coercion.specs.declared.found.Found.{Found}
use Rattle.px_coercion.specs.Found.{seen}
use Rattle.px_check.specs.Inputs.{refused_over}

pub refused-Gather : (c : Catalog) (x y : Expr) (scalar : Bool) → found c (tree_of (expr.Gather x y scalar)) ≡ refused_over (found c (tree_of x) ∷ found c (tree_of y) ∷ [])
unfolding signature
refused-Gather c x y scalar =
    ap (found c) (ap tree_of (sym (expr.rolls-Gather x y scalar)) ∙ fold-roll-Expr (Aggregate × List Tree) Tree agg_layer layer (Expr-F.Gather x y scalar))

pub refused-Slice : (c : Catalog) (x y z : Expr) → found c (tree_of (expr.Slice x y z)) ≡ refused_over (found c (tree_of x) ∷ found c (tree_of y) ∷ found c (tree_of z) ∷ [])
unfolding signature
refused-Slice c x y z =
    ap (found c) (ap tree_of (sym (expr.rolls-Slice x y z)) ∙ fold-roll-Expr (Aggregate × List Tree) Tree agg_layer layer (Expr-F.Slice x y z))

pub refused-Filter : (c : Catalog) (x y : Expr) → found c (tree_of (expr.Filter x y)) ≡ refused_over (found c (tree_of x) ∷ found c (tree_of y) ∷ [])
unfolding signature
refused-Filter c x y =
    ap (found c) (ap tree_of (sym (expr.rolls-Filter x y)) ∙ fold-roll-Expr (Aggregate × List Tree) Tree agg_layer layer (Expr-F.Filter x y))

-- an aggregate and the trees of its inputs
abbrev pub parts_of : AggExpr → Aggregate × List Tree
parts_of = fold-AggExpr (Aggregate × List Tree) Tree agg_layer layer

pub refused-Agg : (c : Catalog) (a : AggExpr) (p : Aggregate) (ts : List Tree) → parts_of a ≡ (p, ts) → found c (tree_of (expr.Agg a)) ≡ refused_over (fold_trees (find c) (trees ts))
unfolding signature
refused-Agg c a p ts e =
    ap (found c) (ap tree_of (sym (expr.rolls-Agg a)) ∙ (fold-roll-Expr (Aggregate × List Tree) Tree agg_layer layer (Expr-F.Agg a) ∙ ap (λ (q : Aggregate × List Tree). over (root.Agg q.0) q.1) e))

pub parts-Min : (x : Expr) → parts_of (agg.Min x) ≡ (root.Min, tree_of x ∷ [])
parts-Min x = ap parts_of (sym (agg.rolls-Min x)) ∙ fold-roll-AggExpr (Aggregate × List Tree) Tree agg_layer layer (AggExpr-F.Min x)

pub parts-Max : (x : Expr) → parts_of (agg.Max x) ≡ (root.Max, tree_of x ∷ [])
parts-Max x = ap parts_of (sym (agg.rolls-Max x)) ∙ fold-roll-AggExpr (Aggregate × List Tree) Tree agg_layer layer (AggExpr-F.Max x)

pub parts-Median : (x : Expr) → parts_of (agg.Median x) ≡ (root.Median, tree_of x ∷ [])
parts-Median x = ap parts_of (sym (agg.rolls-Median x)) ∙ fold-roll-AggExpr (Aggregate × List Tree) Tree agg_layer layer (AggExpr-F.Median x)

pub parts-NUnique : (x : Expr) → parts_of (agg.NUnique x) ≡ (root.NUnique, tree_of x ∷ [])
parts-NUnique x = ap parts_of (sym (agg.rolls-NUnique x)) ∙ fold-roll-AggExpr (Aggregate × List Tree) Tree agg_layer layer (AggExpr-F.NUnique x)

pub parts-First : (x : Expr) → parts_of (agg.First x) ≡ (root.First, tree_of x ∷ [])
parts-First x = ap parts_of (sym (agg.rolls-First x)) ∙ fold-roll-AggExpr (Aggregate × List Tree) Tree agg_layer layer (AggExpr-F.First x)

pub parts-Last : (x : Expr) → parts_of (agg.Last x) ≡ (root.Last, tree_of x ∷ [])
parts-Last x = ap parts_of (sym (agg.rolls-Last x)) ∙ fold-roll-AggExpr (Aggregate × List Tree) Tree agg_layer layer (AggExpr-F.Last x)

pub parts-Mean : (x : Expr) → parts_of (agg.Mean x) ≡ (root.Mean, tree_of x ∷ [])
parts-Mean x = ap parts_of (sym (agg.rolls-Mean x)) ∙ fold-roll-AggExpr (Aggregate × List Tree) Tree agg_layer layer (AggExpr-F.Mean x)

pub parts-Implode : (x : Expr) → parts_of (agg.Implode x) ≡ (root.Implode, tree_of x ∷ [])
parts-Implode x = ap parts_of (sym (agg.rolls-Implode x)) ∙ fold-roll-AggExpr (Aggregate × List Tree) Tree agg_layer layer (AggExpr-F.Implode x)

pub parts-Count : (x : Expr) (nulls : Bool) → parts_of (agg.Count x nulls) ≡ (root.Count nulls, tree_of x ∷ [])
parts-Count x nulls = ap parts_of (sym (agg.rolls-Count x nulls)) ∙ fold-roll-AggExpr (Aggregate × List Tree) Tree agg_layer layer (AggExpr-F.Count x nulls)

pub parts-Sum : (x : Expr) → parts_of (agg.Sum x) ≡ (root.Sum, tree_of x ∷ [])
parts-Sum x = ap parts_of (sym (agg.rolls-Sum x)) ∙ fold-roll-AggExpr (Aggregate × List Tree) Tree agg_layer layer (AggExpr-F.Sum x)

pub parts-AggGroups : (x : Expr) → parts_of (agg.AggGroups x) ≡ (root.AggGroups, tree_of x ∷ [])
parts-AggGroups x = ap parts_of (sym (agg.rolls-AggGroups x)) ∙ fold-roll-AggExpr (Aggregate × List Tree) Tree agg_layer layer (AggExpr-F.AggGroups x)

pub parts-Std : (x : Expr) (ddof : ℕ) → parts_of (agg.Std x ddof) ≡ (root.Std ddof, tree_of x ∷ [])
parts-Std x ddof = ap parts_of (sym (agg.rolls-Std x ddof)) ∙ fold-roll-AggExpr (Aggregate × List Tree) Tree agg_layer layer (AggExpr-F.Std x ddof)

pub parts-Var : (x : Expr) (ddof : ℕ) → parts_of (agg.Var x ddof) ≡ (root.Var ddof, tree_of x ∷ [])
parts-Var x ddof = ap parts_of (sym (agg.rolls-Var x ddof)) ∙ fold-roll-AggExpr (Aggregate × List Tree) Tree agg_layer layer (AggExpr-F.Var x ddof)

pub parts-Quantile : (x y : Expr) (method : QuantileMethod) → parts_of (agg.Quantile x y method) ≡ (root.Quantile method, tree_of x ∷ tree_of y ∷ [])
parts-Quantile x y method = ap parts_of (sym (agg.rolls-Quantile x y method)) ∙ fold-roll-AggExpr (Aggregate × List Tree) Tree agg_layer layer (AggExpr-F.Quantile x y method)

-- the answer at an aggregate, from that at its inputs
pub agg_refused : (c : Catalog) (a b : AggExpr) (p : Aggregate) (ts : List Tree) (r : Result Found PlanError) → a ≡ b → parts_of b ≡ (p, ts)
    → AnswersOrMemory seen r (refused_over (fold_trees (find c) (trees ts))) → AnswersOrMemory seen r (found c (tree_of (expr.Agg a)))
agg_refused c a b p ts r same parts answer =
    let path = ap (λ (z : AggExpr). found c (tree_of (expr.Agg z))) same ∙ refused-Agg c b p ts parts in
    subst (λ (s : Result check.Found PlanError). AnswersOrMemory seen r s) (sym path) answer
