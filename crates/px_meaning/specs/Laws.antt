-- What rewrites have to keep, so that their steps may be taken anywhere.
use Rattle.std.specs.Prelude.{◌≡◌, ◌<◌, List}
use Rattle.px_base.specs.declared.error.PlanError.{PlanError}
use Rattle.px_types.specs.declared.value_type.ValueType.{ValueType}
use Rattle.px_semantics.specs.Rows.{Contents}
use Rattle.px_expr.specs.declared.context.Context.{Context}
use Rattle.px_expr.specs.declared.context.Context.TheVariants.{Select}
use Rattle.px_expr.specs.Tree.{Tree}
use Rattle.px_meaning.specs.Check.{HasType}
use Rattle.px_meaning.specs.Faults.{HasFault}
use Rattle.px_meaning.specs.Mean.{rows}
use Rattle.px_meaning.specs.Names.{name}
use Rattle.px_meaning.specs.Schema.{Fits}
use Rattle.px_expr.specs.Plan.{Catalog}
use Rattle.px_meaning.specs.Weight.{weight}

-- the right side has the type of the left, on every fitting frame the same rows and no other faults, in a select
-- the same name, and a lower weight
pub record KeepsMeaning (c : Catalog) (context : Context) (Rewrite : Tree → Tree → Type 0) : Type 0 where
  pub value_type : (t u : Tree) → Rewrite t u → (k : ValueType) → HasType c t k → HasType c u k
  pub rows : (t u : Tree) → Rewrite t u → (frame : List Contents) → Fits frame c.schema → rows c.kernels frame t ≡ rows c.kernels frame u
  pub name : (t u : Tree) → Rewrite t u → context ≡ Select → name t ≡ name u
  pub faults : (t u : Tree) → Rewrite t u → (frame : List Contents) → Fits frame c.schema → (f : PlanError) → HasFault c.kernels frame u f → HasFault c.kernels frame t f
  pub lighter : (t u : Tree) → Rewrite t u → weight u < weight t
