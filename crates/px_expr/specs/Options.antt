-- The options of the functions in an expression, which its tree leaves out.
use Rattle.std.specs.Prelude.{List, [], ◌∷◌, ◌++◌}
use Rattle.px_types.specs.declared.options.FunctionOptions.{FunctionOptions}
use Rattle.px_expr.specs.declared.expr.Expr.{Expr}
use Rattle.px_expr.specs.declared.expr.AggExpr.TheOpen.{Expr-F, AggExpr-F}
use Rattle.px_expr.specs.declared.expr.AggExpr.TheFolds.{fold-Expr}

-- lists, one after the other
abbrev pub joined : {A : Type 0} → List (List A) → List A
joined [] = []
joined (xs ∷ xss) = xs ++ joined xss

-- the options in an aggregate's inputs
abbrev pub agg_options : AggExpr-F (List FunctionOptions) (List FunctionOptions) → List FunctionOptions
agg_options (AggExpr-F.Min t) = t
agg_options (AggExpr-F.Max t) = t
agg_options (AggExpr-F.Median t) = t
agg_options (AggExpr-F.NUnique t) = t
agg_options (AggExpr-F.First t) = t
agg_options (AggExpr-F.Last t) = t
agg_options (AggExpr-F.Mean t) = t
agg_options (AggExpr-F.Implode t) = t
agg_options (AggExpr-F.Count t include_nulls) = t
agg_options (AggExpr-F.Quantile t q method) = t ++ q
agg_options (AggExpr-F.Sum t) = t
agg_options (AggExpr-F.AggGroups t) = t
agg_options (AggExpr-F.Std t ddof) = t
agg_options (AggExpr-F.Var t ddof) = t

-- one level of an expression, of whose inputs the options are known
abbrev pub layer_options : Expr-F (List FunctionOptions) (List FunctionOptions) → List FunctionOptions
layer_options (Expr-F.Alias t name) = t
layer_options (Expr-F.BinaryExpr l op r) = l ++ r
layer_options (Expr-F.Cast t dtype options) = t
layer_options (Expr-F.Gather t idx returns_scalar) = t ++ idx
layer_options (Expr-F.Slice t offset length) = t ++ offset ++ length
layer_options (Expr-F.Filter t by) = t ++ by
layer_options (Expr-F.Ternary p t f) = p ++ t ++ f
layer_options (Expr-F.Agg a) = a
layer_options (Expr-F.Function input function options) = options ∷ joined input.entries
layer_options (Expr-F.AnonymousFunction input kernel options) = options ∷ joined input.entries
layer_options (Expr-F.Explode t) = t
layer_options (Expr-F.Exclude t excluded) = t
layer_options _ = []

-- the options of the functions of an expression, each before those of its inputs
abbrev pub options_of : Expr → List FunctionOptions
options_of = fold-Expr (List FunctionOptions) (List FunctionOptions) agg_options layer_options
