-- What the check finds has only nodes of a plan.
use Rattle.std.proofs.Common.{◌≡◌, Result, Ok, Err, refl, ap, ◌∙◌}
use Rattle.std.specs.Prelude.{IfOk}
use Rattle.px_base.specs.declared.error.PlanError.{PlanError}
use Rattle.px_expr.specs.Plan.{Catalog}
use Rattle.px_expr.specs.Tree.{Tree}
use Rattle.px_meaning.specs.Check as check
use Rattle.px_meaning.specs.Check.{Typed, then_, found, with_default_type}
use Rattle.px_meaning.specs.Lowerable.{IsLowerable}
use Rattle.px_meaning.proofs.Lowerable.{check-lowerable}

-- what is found of a whole tree, once it is with_default_type
pub default_type_lowerable : (c : Catalog) (t : Tree) (f : check.Found) → found c t ≡ Ok f → IfOk (with_default_type f) (λ (v : Typed). IsLowerable v.tree)
default_type_lowerable c t f e = go (with_default_type f) refl
  where
    go : (r : Result Typed PlanError) → with_default_type f ≡ r → IfOk r (λ (v : Typed). IsLowerable v.tree)
    go (Ok v) h = check-lowerable c t v (ap (λ (r : Result check.Found PlanError). then_ r with_default_type) e ∙ h)
    go (Err x) h = tt
