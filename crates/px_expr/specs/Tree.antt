-- Trees: expressions as plain data, each a node over the list of its inputs. The options of a function are
-- left out: two expressions that differ in them alone are one tree.
use Rattle.std.specs.Prelude.{ℕ, ℤ, Bool, List, [], ◌∷◌, Option, Some, None}
use Rattle.px_types.specs.declared.dtype.DataType.{DataType}
use Rattle.px_functions.specs.declared.evaluated.EvaluatedFunction.{EvaluatedFunction}
use Rattle.px_functions.specs.declared.function.FunctionExpr.{FunctionExpr}
use Rattle.px_functions.specs.Evaluated.{evaluated}
use Rattle.px_types.specs.declared.type_parts.CastOptions.{CastOptions}
use Rattle.px_types.specs.declared.type_parts.QuantileMethod.{QuantileMethod}
use Rattle.px_types.specs.declared.operator.Operator.{Operator}
use Rattle.px_expr.specs.declared.expr.Excluded.{Excluded}
use Rattle.px_expr.specs.declared.literal.LiteralValue.{LiteralValue}
use Rattle.px_expr.specs.declared.expr.Expr.{Expr}
use Rattle.px_expr.specs.declared.expr.AggExpr.TheOpen.{Expr-F, AggExpr-F}
use Rattle.px_expr.specs.declared.expr.AggExpr.TheFolds.{fold-Expr}

-- an aggregate without its input
pub data Aggregate : Type 0 where
  Min : Aggregate
  Max : Aggregate
  Median : Aggregate
  NUnique : Aggregate
  First : Aggregate
  Last : Aggregate
  Mean : Aggregate
  Implode : Aggregate
  Count : Bool → Aggregate
  Quantile : QuantileMethod → Aggregate
  Sum : Aggregate
  AggGroups : Aggregate
  Std : ℕ → Aggregate
  Var : ℕ → Aggregate

-- a node without its inputs
pub data Node : Type 0 where
  Alias : List ℕ → Node
  Column : List ℕ → Node
  Columns : List (List ℕ) → Node
  DtypeColumn : List DataType → Node
  IndexColumn : List ℤ → Node
  Literal : LiteralValue → Node
  Binary : Operator → Node
  Cast : DataType → CastOptions → Node
  Gather : Bool → Node
  Slice : Node
  Filter : Node
  Ternary : Node
  Agg : Aggregate → Node
  Function : EvaluatedFunction → Node
  -- a function that is not evaluated
  OtherFunction : FunctionExpr → Node
  AnonymousFunction : ℕ → Node
  Explode : Node
  Exclude : List Excluded → Node
  Len : Node
  Nth : ℤ → Node
  Wildcard : Node

mutual
  pub data Tree : Type 0 where
    tree : Node → Trees → Tree

  pub data Trees : Type 0 where
    none : Trees
    more : Tree → Trees → Trees

abbrev pub trees : List Tree → Trees
trees [] = none
trees (t ∷ ts) = more t (trees ts)

abbrev pub node_for : FunctionExpr → Option EvaluatedFunction → Node
node_for f (Some own) = Function own
node_for f None = OtherFunction f

-- the node of a function
abbrev pub function_node : FunctionExpr → Node
function_node f = node_for f (evaluated f)

-- a node over a list of inputs
abbrev pub over : Node → List Tree → Tree
over n ts = tree n (trees ts)

-- an aggregate and its inputs, which are trees already
abbrev pub agg_layer : AggExpr-F (Aggregate × List Tree) Tree → Aggregate × List Tree
agg_layer (AggExpr-F.Min t) = (Min, t ∷ [])
agg_layer (AggExpr-F.Max t) = (Max, t ∷ [])
agg_layer (AggExpr-F.Median t) = (Median, t ∷ [])
agg_layer (AggExpr-F.NUnique t) = (NUnique, t ∷ [])
agg_layer (AggExpr-F.First t) = (First, t ∷ [])
agg_layer (AggExpr-F.Last t) = (Last, t ∷ [])
agg_layer (AggExpr-F.Mean t) = (Mean, t ∷ [])
agg_layer (AggExpr-F.Implode t) = (Implode, t ∷ [])
agg_layer (AggExpr-F.Count t include_nulls) = (Count include_nulls, t ∷ [])
agg_layer (AggExpr-F.Quantile t q method) = (Quantile method, t ∷ q ∷ [])
agg_layer (AggExpr-F.Sum t) = (Sum, t ∷ [])
agg_layer (AggExpr-F.AggGroups t) = (AggGroups, t ∷ [])
agg_layer (AggExpr-F.Std t ddof) = (Std ddof, t ∷ [])
agg_layer (AggExpr-F.Var t ddof) = (Var ddof, t ∷ [])

-- one level of an expression, whose inputs are trees already
abbrev pub layer : Expr-F (Aggregate × List Tree) Tree → Tree
layer (Expr-F.Alias t name) = over (Alias name) (t ∷ [])
layer (Expr-F.Column name) = over (Column name) []
layer (Expr-F.Columns names) = over (Columns names.entries) []
layer (Expr-F.DtypeColumn dtypes) = over (DtypeColumn dtypes.entries) []
layer (Expr-F.IndexColumn indices) = over (IndexColumn indices.entries) []
layer (Expr-F.Literal value) = over (Literal value) []
layer (Expr-F.BinaryExpr l op r) = over (Binary op) (l ∷ r ∷ [])
layer (Expr-F.Cast t dtype options) = over (Cast dtype options) (t ∷ [])
layer (Expr-F.Gather t idx returns_scalar) = over (Gather returns_scalar) (t ∷ idx ∷ [])
layer (Expr-F.Slice t offset length) = over Slice (t ∷ offset ∷ length ∷ [])
layer (Expr-F.Filter t by) = over Filter (t ∷ by ∷ [])
layer (Expr-F.Ternary p t f) = over Ternary (p ∷ t ∷ f ∷ [])
layer (Expr-F.Agg a) = over (Agg a.0) a.1
layer (Expr-F.Function input function options) = over (function_node function) input.entries
layer (Expr-F.AnonymousFunction input kernel options) = over (AnonymousFunction kernel) input.entries
layer (Expr-F.Explode t) = over Explode (t ∷ [])
layer (Expr-F.Exclude t excluded) = over (Exclude excluded.entries) (t ∷ [])
layer Expr-F.Len = over Len []
layer (Expr-F.Nth n) = over (Nth n) []
layer Expr-F.Wildcard = over Wildcard []

-- the tree of an expression
abbrev pub tree_of : Expr → Tree
tree_of = fold-Expr (Aggregate × List Tree) Tree agg_layer layer

-- a function of a whole tree, from what it gives at a node and the results at the node's inputs
module _ {A : Type 0} (at : Node → List A → A) where
  abbrev mutual
    pub fold_tree : Tree → A
    fold_tree (tree n ts) = at n (fold_trees ts)

    pub fold_trees : Trees → List A
    fold_trees none = []
    fold_trees (more t ts) = fold_tree t ∷ fold_trees ts
