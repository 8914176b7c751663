-- What one node gives over the rows that a table holds of its inputs.
use Rattle.std.specs.Prelude.{◌≡◌, ◌⊎◌, ℕ, List, [], ◌∷◌, map, Option, Some, None, Result, Ok, Err, option_and_then}
use Rattle.px_base.specs.declared.error.PlanError.{PlanError}
use Rattle.px_base.specs.declared.error.PlanError.TheVariants.{OutOfMemory, ShapeMismatch, InvalidCast}
use Rattle.px_functions.specs.declared.evaluated.EvaluatedFunction.{EvaluatedFunction}
use Rattle.px_functions.specs.declared.evaluated.EvaluatedFunction.TheVariants as function
use Rattle.px_types.specs.declared.operator.Operator.{Operator}
use Rattle.px_types.specs.declared.value_type.ValueType.{ValueType}
use Rattle.px_semantics.specs.Casts.{cast_to}
use Rattle.px_semantics.specs.Rows.{TypedRows, Contents}
use Rattle.px_types.specs.declared.dtype.DataType.{DataType}
use Rattle.px_types.specs.declared.type_parts.CastOptions.{CastOptions}
use Rattle.px_expr.specs.Tree.{Node as Root}
use Rattle.px_expr.specs.Tree as root
use Rattle.px_meaning.specs.Check.{resolve}
use Rattle.px_meaning.specs.Faults.{OwnFault}
use Rattle.px_meaning.specs.Mean.{all_of, node_rows}
use Rattle.px_meaning.specs.Schema.{schema_of}
use Rattle.px_expr.specs.Kernel.{Kernel}
use Rattle.px_expr.specs.Plan.{Catalog, catalog_of}
use Rattle.px_meaning.specs.Signatures.{OfType, Signature, group_of, group_type, function_signature}
use Rattle.px_meaning.proofs.Means.{AreColumns}
use Rattle.px_arena.specs.declared.node.AExpr.{AExpr}
use Rattle.px_arena.specs.Denotes.{root_of, inputs_of}
use Rattle.px_column.specs.declared.buffer.Buffer.{Buffer}
use Rattle.px_column.specs.Buffers as buffers
use Rattle.px_eval.specs.declared.table.Rows.{Rows}
use Rattle.px_eval.specs.Table.{rows_at, values_of}

-- the frame's schema, and the caller's kernels
abbrev pub frame_catalog : List Kernel → List Contents → Catalog
frame_catalog kernels frame = catalog_of (schema_of frame) kernels

-- what the table holds of the inputs
abbrev pub input_rows : List (Option TypedRows) → AExpr → List (Option TypedRows)
input_rows table x = map (rows_at table) (inputs_of x)

-- the table holds columns of all inputs, and the node takes their types
pub record IsReady (kernels : List Kernel) (frame : List Contents) (table : List (Option TypedRows)) (x : AExpr) : Type 0 where
  pub types : List ValueType
  pub value_type : ValueType
  pub columns : List TypedRows
  pub takes : resolve (frame_catalog kernels frame) (root_of x) (map OfType types) ≡ Ok (record { inputs = types; result = value_type })
  pub all : all_of (input_rows table x) ≡ Some columns
  pub typed : AreColumns types columns

-- what the node gives over what the table holds
abbrev pub node_gives : List Kernel → List Contents → List (Option TypedRows) → AExpr → Option TypedRows
node_gives kernels frame table x = node_rows kernels frame (root_of x) (input_rows table x)

-- the answer is what the node gives
abbrev pub IsAnswer : List Kernel → List Contents → List (Option TypedRows) → AExpr → Rows → Type 0
IsAnswer kernels frame table x r = node_gives kernels frame table x ≡ Some (values_of r)

-- out of memory, or a fault of the node itself
abbrev pub IsReason : List Kernel → List Contents → List (Option TypedRows) → AExpr → PlanError → Type 0
IsReason kernels frame table x e = (e ≡ OutOfMemory) ⊎ OwnFault kernels frame (root_of x) (input_rows table x) e

-- the only fault of a node itself
abbrev pub fault_of : Root → PlanError
fault_of (root.Cast dtype options) = InvalidCast
fault_of _ = ShapeMismatch

-- what the place holds, in another type
abbrev pub cast_at : List (Option TypedRows) → ℕ → CastOptions → DataType → Option TypedRows
cast_at table n options to = option_and_then (cast_to options to) (rows_at table n)

-- the operator takes two columns of such types
pub record TakesTwo (o : Operator) (a b : ValueType) : Type 0 where
  pub value_type : ValueType
  pub gives : group_type (group_of o) a ≡ Some value_type
  pub same : a ≡ b

-- the function takes one column of such a type
abbrev pub TakesOne : EvaluatedFunction → ValueType → Type 0
TakesOne f k = (s : Signature) × (function_signature f (OfType k ∷ []) ≡ Some s)

-- the rows of the buffer, or its error; out of memory too
abbrev pub IsOwned : Result Rows PlanError → Result Buffer PlanError → Type 0
IsOwned (Ok r) (Ok b) = values_of r ≡ buffers.values_of b
IsOwned (Err e) (Ok b) = e ≡ OutOfMemory
IsOwned (Err e) (Err f) = e ≡ f
IsOwned (Ok r) (Err f) = ⊥

-- the node is this function
abbrev pub IsFunction : AExpr → EvaluatedFunction → Type 0
IsFunction x f = root_of x ≡ root.Function f

-- the function has one input
abbrev pub IsOfOne : EvaluatedFunction → Type 0
IsOfOne (function.Fused f) = ⊥
IsOfOne _ = Unit {0}
