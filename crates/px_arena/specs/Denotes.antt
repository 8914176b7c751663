-- Which tree a place of an arena denotes, and which places it reaches. An arena is the list of what its places
-- hold. `root_of` and `inputs_of` are all that the theory of arenas knows of a node.
use Rattle.std.specs.Prelude.{◌≡◌, ℕ, List, [], ◌∷◌, map, Some, slice_get}
use Rattle.px_expr.specs.Tree.{Node as Root, function_node, Aggregate, Tree, tree, Trees, none, more}
use Rattle.px_expr.specs.Tree as root
use Rattle.px_arena.specs.declared.node.AExpr.{AExpr}
use Rattle.px_arena.specs.declared.node.AExpr.TheVariants as ir
use Rattle.px_arena.specs.declared.node.ExprIR.{ExprIR}
use Rattle.px_arena.specs.declared.node.IRAggExpr.{IRAggExpr}
use Rattle.px_arena.specs.declared.node.IRAggExpr.TheVariants as agg

-- an aggregate without its input
abbrev pub aggregate_of : IRAggExpr → Aggregate
aggregate_of (agg.Min input) = root.Min
aggregate_of (agg.Max input) = root.Max
aggregate_of (agg.First input) = root.First
aggregate_of (agg.Last input) = root.Last
aggregate_of (agg.Sum input) = root.Sum
aggregate_of (agg.Count input include_nulls) = root.Count include_nulls

abbrev pub agg_inputs : IRAggExpr → List ℕ
agg_inputs (agg.Min input) = input.0 ∷ []
agg_inputs (agg.Max input) = input.0 ∷ []
agg_inputs (agg.First input) = input.0 ∷ []
agg_inputs (agg.Last input) = input.0 ∷ []
agg_inputs (agg.Sum input) = input.0 ∷ []
agg_inputs (agg.Count input include_nulls) = input.0 ∷ []

-- a node without its inputs. The options of a function are left out.
abbrev pub root_of : AExpr → Root
root_of (ir.Alias input name) = root.Alias name
root_of (ir.Column name) = root.Column name
root_of (ir.Literal value) = root.Literal value
root_of (ir.BinaryExpr left op right) = root.Binary op
root_of (ir.Cast expr dtype options) = root.Cast dtype options
root_of (ir.Gather expr idx returns_scalar) = root.Gather returns_scalar
root_of (ir.Slice input offset length) = root.Slice
root_of (ir.Filter input by) = root.Filter
root_of (ir.Ternary predicate truthy falsy) = root.Ternary
root_of (ir.Agg a) = root.Agg (aggregate_of a)
root_of (ir.Function input function options) = function_node function
root_of (ir.AnonymousFunction input kernel options) = root.AnonymousFunction kernel
root_of ir.Len = root.Len

abbrev pub expr_places : List ExprIR → List ℕ
expr_places es = map (λ (e : ExprIR). e.0.0) es

-- the places of its inputs
abbrev pub inputs_of : AExpr → List ℕ
inputs_of (ir.Alias input name) = input.0 ∷ []
inputs_of (ir.Column name) = []
inputs_of (ir.Literal value) = []
inputs_of (ir.BinaryExpr left op right) = left.0 ∷ right.0 ∷ []
inputs_of (ir.Cast expr dtype options) = expr.0 ∷ []
inputs_of (ir.Gather expr idx returns_scalar) = expr.0 ∷ idx.0 ∷ []
inputs_of (ir.Slice input offset length) = input.0 ∷ offset.0 ∷ length.0 ∷ []
inputs_of (ir.Filter input by) = input.0 ∷ by.0 ∷ []
inputs_of (ir.Ternary predicate truthy falsy) = predicate.0 ∷ truthy.0 ∷ falsy.0 ∷ []
inputs_of (ir.Agg a) = agg_inputs a
inputs_of (ir.Function input function options) = expr_places input.entries
inputs_of (ir.AnonymousFunction input kernel options) = expr_places input.entries
inputs_of ir.Len = []

abbrev mutual
  -- the place holds the tree's root, and its inputs denote the tree's inputs in order
  pub Denotes : List AExpr → ℕ → Tree → Type 0
  Denotes items n (tree k us) =
      (x : AExpr) × (slice_get items n ≡ Some x) × (root_of x ≡ k) × DenoteAll items (inputs_of x) us

  pub DenoteAll : List AExpr → List ℕ → Trees → Type 0
  DenoteAll items [] none = Unit {0}
  DenoteAll items (n ∷ ns) (more u us) = Denotes items n u × DenoteAll items ns us
  DenoteAll items [] (more u us) = ⊥
  DenoteAll items (n ∷ ns) none = ⊥

-- m is one of the places
pub data IsIn (m : ℕ) : List ℕ → Type 0 where
  first : {ns : List ℕ} → IsIn m (m ∷ ns)
  later : {n : ℕ} {ns : List ℕ} → IsIn m ns → IsIn m (n ∷ ns)

-- the place p is n or stands below it
pub data Reaches (items : List AExpr) : ℕ → ℕ → Type 0 where
  here : {n : ℕ} → Reaches items n n
  below : {n m p : ℕ} (x : AExpr) → slice_get items n ≡ Some x → IsIn m (inputs_of x) → Reaches items m p → Reaches items n p

-- each of the places holds in the new arena what it held
pub record IsKept (old new : List AExpr) (P : ℕ → Type 0) : Type 0 where
  pub at : (p : ℕ) (x : AExpr) → P p → slice_get old p ≡ Some x → slice_get new p ≡ Some x

-- every earlier place stays
abbrev pub IsGrown : List AExpr → List AExpr → Type 0
IsGrown old new = IsKept old new (λ p. Unit {0})
