-- The table that is filled while the places of an arena are evaluated on a frame.
use Rattle.std.specs.Prelude.{◌≡◌, ℕ, ◌+◌, ◌≤◌, List, length, Option, Some, None, IsSome}
use Rattle.px_base.specs.declared.error.PlanError.{PlanError}
use Rattle.px_semantics.specs.Rows.{TypedRows, Contents}
use Rattle.px_expr.specs.Kernel.{Kernel}
use Rattle.px_expr.specs.Tree.{Tree}
use Rattle.px_meaning.specs.Faults.{HasFault}
use Rattle.px_meaning.specs.Mean.{rows}
use Rattle.px_arena.specs.declared.node.AExpr.{AExpr}
use Rattle.px_arena.specs.Denotes.{Denotes, Reaches, IsIn}
use Rattle.px_eval.specs.Order.{IsNeeded, last_reader}
use Rattle.px_eval.specs.Table.{rows_at}

-- each place that is filled holds what the tree means that it denotes
pub record IsTable (kernels : List Kernel) (frame : List Contents) (items : List AExpr) (table : List (Option TypedRows)) : Type 0 where
  pub same_length : length table ≡ length items
  pub means : (i : ℕ) (v : TypedRows) → rows_at table i ≡ Some v → (t : Tree) → Denotes items i t → rows kernels frame t ≡ Some v

-- of these places those were dropped that are needed up to this position, and no others
pub record Dropped (needed : List (Option ℕ)) (position : ℕ) (ns : List ℕ) (old new : List (Option TypedRows)) : Type 0 where
  pub same_length : length new ≡ length old
  pub only : (n : ℕ) (v : TypedRows) → rows_at new n ≡ Some v → rows_at old n ≡ Some v
  pub kept : (n : ℕ) → IsNeeded needed n (position + 1) → IsSome (rows_at old n) → IsSome (rows_at new n)
  pub gone : (n : ℕ) → IsIn n ns → last_reader needed n ≡ Some position → rows_at new n ≡ None

-- the tree that the place denotes has the fault on the frame
abbrev pub HasFaultAt : List Kernel → List Contents → List AExpr → ℕ → PlanError → Type 0
HasFaultAt kernels frame items n e = (t : Tree) → Denotes items n t → HasFault kernels frame t e

-- the table holds what the trees of the roots mean
abbrev pub HoldsRoots : List Kernel → List Contents → List AExpr → List ℕ → List (Option TypedRows) → Type 0
HoldsRoots kernels frame items ns table = (n : ℕ) → IsIn n ns → (v : TypedRows) × (rows_at table n ≡ Some v) × ((t : Tree) → Denotes items n t → rows kernels frame t ≡ Some v)

-- the tree of a root has the fault
abbrev pub RootHasFault : List Kernel → List Contents → List AExpr → List ℕ → PlanError → Type 0
RootHasFault kernels frame items ns e = (n : ℕ) × IsIn n ns × HasFaultAt kernels frame items n e

-- the steps grew by no more than the places that a root reaches: than each list that has all of these
pub record HasTicked (items : List AExpr) (ns : List ℕ) (old new : ℕ) : Type 0 where
  pub least : old ≤ new
  pub most : (ps : List ℕ) → ((n p : ℕ) → IsIn n ns → Reaches items n p → IsIn p ps) → new ≤ old + length ps
