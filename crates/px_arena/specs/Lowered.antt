-- When a place stands for an expression.
use Rattle.std.specs.Prelude.{ℕ, List, [], ◌∷◌}
use Rattle.px_expr.specs.Tree.{tree_of}
use Rattle.px_expr.specs.declared.expr.Expr.{Expr}
use Rattle.px_expr.specs.declared.expr.AggExpr.{AggExpr}
use Rattle.px_expr.specs.declared.expr.AggExpr.TheVariants as agg
use Rattle.px_arena.specs.declared.node.AExpr.{AExpr}
use Rattle.px_arena.specs.declared.node.IRAggExpr.{IRAggExpr}
use Rattle.px_arena.specs.declared.node.IRAggExpr.TheVariants as ir_agg
use Rattle.px_arena.specs.Denotes.{Denotes}
use Rattle.px_arena.specs.Options.{KeepsOptions, options_of}

-- the place stands for the expression: it denotes its tree and keeps its options
abbrev pub StandsFor : List AExpr → ℕ → Expr → Type 0
StandsFor items n e = Denotes items n (tree_of e) × KeepsOptions items n (options_of e)

abbrev pub AllStandFor : List AExpr → List ℕ → List Expr → Type 0
AllStandFor items [] [] = Unit {0}
AllStandFor items (n ∷ ns) (e ∷ es) = StandsFor items n e × AllStandFor items ns es
AllStandFor items [] (e ∷ es) = ⊥
AllStandFor items (n ∷ ns) [] = ⊥

-- the aggregate over this input
abbrev pub agg_expr : IRAggExpr → Expr → AggExpr
agg_expr (ir_agg.Min a) e = agg.Min e
agg_expr (ir_agg.Max a) e = agg.Max e
agg_expr (ir_agg.First a) e = agg.First e
agg_expr (ir_agg.Last a) e = agg.Last e
agg_expr (ir_agg.Sum a) e = agg.Sum e
agg_expr (ir_agg.Count a include_nulls) e = agg.Count e include_nulls
