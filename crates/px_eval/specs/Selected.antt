-- Expressions selected from a frame: their columns, and the trees that they were rewritten to.
use Rattle.std.specs.Prelude.{◌≡◌, ◌⊎◌, ℕ, ◌+◌, ◌-◌, ◌^◌, ◌≤◌, min, List, map, Result, Ok, Err}
use Rattle.px_base.specs.declared.error.PlanError.{PlanError}
use Rattle.px_base.specs.declared.error.PlanError.TheVariants.{OutOfMemory}
use Rattle.px_semantics.specs.Rows.{Contents}
use Rattle.px_expr.specs.declared.context.Context.{Context}
use Rattle.px_expr.specs.declared.expr.Expr.{Expr}
use Rattle.px_expr.specs.Plan.{Catalog}
use Rattle.px_expr.specs.Tree.{Tree, trees, tree_of}
use Rattle.px_meaning.specs.Check.{Typed}
use Rattle.px_meaning.specs.Mean.{mean, Same}
use Rattle.px_meaning.specs.Rewriting.{Moves}
use Rattle.px_meaning.specs.Schema.{Fits}
use Rattle.px_meaning.specs.Weight.{node_count}
use Rattle.px_eval.specs.Evaluated.{HasListFault}

-- the columns, the rewritten expressions, and how many rewrites led to them
pub record Selected : Type 0 where
  pub columns : List Contents
  pub exprs : List Expr
  pub rewrites : ℕ

-- the trees that are answered
abbrev pub answered : Selected → List Tree
answered s = map tree_of s.exprs

-- the trees of a checked list
abbrev pub checked_trees : List Typed → List Tree
checked_trees vs = map (λ (v : Typed). v.tree) vs

-- the check gives trees, of which this holds
abbrev pub OnChecked : Result (List Typed) PlanError → (List Tree → Type 0) → Type 0
OnChecked checked Holds = (vs : List Typed) → checked ≡ Ok vs → Holds (checked_trees vs)

-- on every frame of the schema both trees mean the same, failures included
abbrev pub MeansTheSame : Catalog → Context → Tree → Tree → Type 0
MeansTheSame c context t u = (frame : List Contents) → Fits frame c.schema → Same context (mean c.kernels frame t) (mean c.kernels frame u)

-- so many rewrites lead from the one list to the other. The steps rose by them and by no more than one for each
-- node that was answered. The count is their number, or the greatest of 64 bits.
pub record IsCounted (Rewrite : Tree → Tree → Type 0) (ts us : List Tree) (count rise : ℕ) : Type 0 where
  pub rewrites : ℕ
  pub moves : Moves Rewrite (trees ts) (trees us) rewrites
  pub count_is : count ≡ min rewrites (2 ^ 64 - 1)
  pub at_least : rewrites ≤ rise
  pub at_most : rise ≤ rewrites + node_count (trees us)

-- out of memory, the first fault of the check, or a fault that the checked list has on the frame
abbrev pub IsRefusal : Catalog → List Contents → Result (List Typed) PlanError → PlanError → Type 0
IsRefusal c frame checked e = (e ≡ OutOfMemory) ⊎ ((checked ≡ Err e) ⊎ ((vs : List Typed) × (checked ≡ Ok vs) × HasListFault c.kernels frame (checked_trees vs) e))
