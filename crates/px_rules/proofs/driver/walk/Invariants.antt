use Rattle.std.proofs.Common.{◌≡◌, ℕ, ◌+◌, ◌^◌, ◌-◌, min}
use Rattle.px_rules.specs.Plan.{places}
use Rattle.px_expr.specs.Kernel.{all_kernels}
use Rattle.px_expr.specs.Plan.{catalog_of}
use Rattle.px_rules.proofs.Walks.{IsWalked}
use Rattle.px_rules.proofs.driver.walk.Given as goal

abbrev pub invariant-loop-root : goal.invariant-loop-root
invariant-loop-root g l =
    (r : ℕ) × (l.steps ≡ l.fn.steps + r) × (l.count ≡ min r (2 ^ 64 - 1))
    × IsWalked (g.R.OptimizationRule.is_rewrite (catalog_of l.plan.schema.now (all_kernels (λ b. (goal.ColumnsUdf-dyn g (b.vtable, b.value)).declared b.value) (λ b. (goal.ColumnsUdf-dyn g (b.vtable, b.value)).answer b.value) l.plan.kernels.now.entries.items)) l.plan.context) (places l.roots) l.fn.arena l.arena l.root-index r
