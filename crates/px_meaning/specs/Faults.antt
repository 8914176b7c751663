-- Faults: why a tree means nothing on a frame. A place has the faults of its inputs and its own, which read its
-- inputs' rows alone.
use Rattle.std.specs.Prelude.{◌≡◌, ℕ, Bool, true, false, List, [], ◌∷◌, map, length, Option, Some, None}
use Rattle.px_base.specs.declared.error.PlanError.{PlanError}
use Rattle.px_base.specs.declared.error.PlanError.TheVariants.{ShapeMismatch, InvalidCast}
use Rattle.px_types.specs.declared.dtype.DataType.{DataType}
use Rattle.px_types.specs.declared.type_parts.CastOptions.TheVariants.{Strict}
use Rattle.px_types.specs.declared.value_type.ValueType.{ValueType}
use Rattle.px_functions.specs.declared.evaluated.EvaluatedFunction.TheVariants as function
use Rattle.px_semantics.specs.Casts.{any_lost, cast_value}
use Rattle.px_semantics.specs.Rows.{TypedRows, Contents, broadcast_lengths}
use Rattle.px_types.specs.ValueTypes.{value_type_of}
use Rattle.px_expr.specs.Kernel.{Kernel}
use Rattle.px_expr.specs.Tree.{Node, Binary, Cast, Ternary, Function, Tree, tree, Trees, more, fold_trees}
use Rattle.px_meaning.specs.Mean.{all_of, node_rows}

-- whether a node joins the lengths of its inputs
abbrev pub is_joining : Node → Bool
is_joining (Binary o) = true
is_joining Ternary = true
is_joining (Function (function.Fused f)) = true
is_joining _ = false

abbrev pub lengths : List TypedRows → List ℕ
lengths inputs = map (λ (a : TypedRows). length a.rows) inputs

-- all inputs mean columns, whose lengths do not broadcast
abbrev pub HasUnevenInputs : List (Option TypedRows) → Type 0
HasUnevenInputs inputs = (columns : List TypedRows) × (all_of inputs ≡ Some columns) × (broadcast_lengths (lengths columns) ≡ None)

-- the input means a column with a value that the type lacks
abbrev pub LosesValue : ValueType → List (Option TypedRows) → Type 0
LosesValue to inputs = (a : TypedRows) × (inputs ≡ Some a ∷ []) × (any_lost (cast_value Strict to) a.rows ≡ true)

-- the faults of a node itself, from what its inputs mean
pub data OwnFault (kernels : List Kernel) (frame : List Contents) : Node → List (Option TypedRows) → PlanError → Type 0 where
  uneven : {n : Node} {inputs : List (Option TypedRows)} → is_joining n ≡ true → HasUnevenInputs inputs → OwnFault kernels frame n inputs ShapeMismatch
  lossy : {dtype : DataType} {inputs : List (Option TypedRows)} (to : ValueType) → value_type_of dtype ≡ Some to → LosesValue to inputs → OwnFault kernels frame (Cast dtype Strict) inputs InvalidCast

module _ (kernels : List Kernel) (frame : List Contents) where
  mutual
    -- the faults of a tree on a frame
    pub data HasFault : Tree → PlanError → Type 0 where
      own : {n : Node} {us : Trees} {f : PlanError} → OwnFault kernels frame n (fold_trees (node_rows kernels frame) us) f → HasFault (tree n us) f
      of_input : {n : Node} {us : Trees} {f : PlanError} → SomeHasFault us f → HasFault (tree n us) f

    pub data SomeHasFault : Trees → PlanError → Type 0 where
      of_first : {u : Tree} {us : Trees} {f : PlanError} → HasFault u f → SomeHasFault (more u us) f
      of_rest : {u : Tree} {us : Trees} {f : PlanError} → SomeHasFault us f → SomeHasFault (more u us) f
