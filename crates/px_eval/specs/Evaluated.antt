-- What places mean together, on a frame.
use Rattle.std.specs.Prelude.{◌≡◌, ◌⊎◌, List, map}
use Rattle.px_base.specs.declared.error.PlanError.{PlanError}
use Rattle.px_base.specs.declared.error.PlanError.TheVariants.{ShapeMismatch}
use Rattle.px_semantics.specs.Rows.{Contents}
use Rattle.px_expr.specs.Kernel.{Kernel}
use Rattle.px_expr.specs.Tree.{Tree, trees}
use Rattle.px_meaning.specs.Faults.{SomeHasFault, HasUnevenInputs}
use Rattle.px_meaning.specs.Mean.{rows}
use Rattle.px_arena.specs.declared.node.AExpr.{AExpr}
use Rattle.px_arena.specs.declared.node.Node.{Node}
use Rattle.px_arena.specs.Denotes.{DenoteAll}
use Rattle.px_rules.specs.Plan.{places}

-- the places denote the trees, in order
abbrev pub DenoteTrees : List AExpr → List Node → List Tree → Type 0
DenoteTrees items ns ts = DenoteAll items (places ns) (trees ts)

-- a tree of the list has the fault, or all mean columns, whose lengths do not broadcast
abbrev pub HasListFault : List Kernel → List Contents → List Tree → PlanError → Type 0
HasListFault kernels frame ts e = SomeHasFault kernels frame (trees ts) e ⊎ ((e ≡ ShapeMismatch) × HasUnevenInputs (map (rows kernels frame) ts))
