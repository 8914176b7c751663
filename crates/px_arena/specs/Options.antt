-- The options of functions, which trees leave out: an expression's options node by node, and that places keep them.
use Rattle.std.specs.Prelude.{◌≡◌, ℕ, List, [], ◌∷◌, Option, Some, None, slice_get}
use Rattle.px_types.specs.declared.options.FunctionOptions.{FunctionOptions}
use Rattle.px_expr.specs.declared.expr.Expr.{Expr}
use Rattle.px_expr.specs.declared.expr.AggExpr.TheOpen.{Expr-F, AggExpr-F}
use Rattle.px_expr.specs.declared.expr.AggExpr.TheFolds.{fold-Expr}
use Rattle.px_arena.specs.declared.node.AExpr.{AExpr}
use Rattle.px_arena.specs.declared.node.AExpr.TheVariants as ir
use Rattle.px_arena.specs.Denotes.{inputs_of}

mutual
  -- the options of each node, in the shape of the expression
  pub data Options : Type 0 where
    options : Option FunctionOptions → OptionsList → Options

  pub data OptionsList : Type 0 where
    none : OptionsList
    more : Options → OptionsList → OptionsList

abbrev pub options_list : List Options → OptionsList
options_list [] = none
options_list (o ∷ os) = more o (options_list os)

-- a node without options, over inputs
abbrev pub plain : List Options → Options
plain os = options None (options_list os)

abbrev pub agg_options : AggExpr-F (List Options) Options → List Options
agg_options (AggExpr-F.Min o) = o ∷ []
agg_options (AggExpr-F.Max o) = o ∷ []
agg_options (AggExpr-F.Median o) = o ∷ []
agg_options (AggExpr-F.NUnique o) = o ∷ []
agg_options (AggExpr-F.First o) = o ∷ []
agg_options (AggExpr-F.Last o) = o ∷ []
agg_options (AggExpr-F.Mean o) = o ∷ []
agg_options (AggExpr-F.Implode o) = o ∷ []
agg_options (AggExpr-F.Count o include_nulls) = o ∷ []
agg_options (AggExpr-F.Quantile o q method) = o ∷ q ∷ []
agg_options (AggExpr-F.Sum o) = o ∷ []
agg_options (AggExpr-F.AggGroups o) = o ∷ []
agg_options (AggExpr-F.Std o ddof) = o ∷ []
agg_options (AggExpr-F.Var o ddof) = o ∷ []

abbrev pub layer_options : Expr-F (List Options) Options → Options
layer_options (Expr-F.Alias o name) = plain (o ∷ [])
layer_options (Expr-F.Column name) = plain []
layer_options (Expr-F.Columns names) = plain []
layer_options (Expr-F.DtypeColumn dtypes) = plain []
layer_options (Expr-F.IndexColumn indices) = plain []
layer_options (Expr-F.Literal value) = plain []
layer_options (Expr-F.BinaryExpr l op r) = plain (l ∷ r ∷ [])
layer_options (Expr-F.Cast o dtype cast_options) = plain (o ∷ [])
layer_options (Expr-F.Gather o idx returns_scalar) = plain (o ∷ idx ∷ [])
layer_options (Expr-F.Slice o offset length) = plain (o ∷ offset ∷ length ∷ [])
layer_options (Expr-F.Filter o by) = plain (o ∷ by ∷ [])
layer_options (Expr-F.Ternary p t f) = plain (p ∷ t ∷ f ∷ [])
layer_options (Expr-F.Agg os) = plain os
layer_options (Expr-F.Function input function own) = options (Some own) (options_list input.entries)
layer_options (Expr-F.AnonymousFunction input kernel own) = options (Some own) (options_list input.entries)
layer_options (Expr-F.Explode o) = plain (o ∷ [])
layer_options (Expr-F.Exclude o excluded) = plain (o ∷ [])
layer_options Expr-F.Len = plain []
layer_options (Expr-F.Nth n) = plain []
layer_options Expr-F.Wildcard = plain []

-- the options of each node of an expression
abbrev pub options_of : Expr → Options
options_of = fold-Expr (List Options) Options agg_options layer_options

-- the options of a node of an arena
abbrev pub own_options : AExpr → Option FunctionOptions
own_options (ir.Function input function own) = Some own
own_options (ir.AnonymousFunction input kernel own) = Some own
own_options _ = None

abbrev mutual
  -- the place holds a node with these options, and so do its inputs
  pub KeepsOptions : List AExpr → ℕ → Options → Type 0
  KeepsOptions items n (options o os) =
      (x : AExpr) × (slice_get items n ≡ Some x) × (own_options x ≡ o) × KeepAllOptions items (inputs_of x) os

  pub KeepAllOptions : List AExpr → List ℕ → OptionsList → Type 0
  KeepAllOptions items [] none = Unit {0}
  KeepAllOptions items (n ∷ ns) (more o os) = KeepsOptions items n o × KeepAllOptions items ns os
  KeepAllOptions items [] (more o os) = ⊥
  KeepAllOptions items (n ∷ ns) none = ⊥
