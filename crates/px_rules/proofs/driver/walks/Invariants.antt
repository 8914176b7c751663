use Rattle.std.proofs.Common.{◌≡◌, ℕ, ◌+◌, ◌^◌, ◌-◌, min}
use Rattle.px_rules.specs.Plan.{places}
use Rattle.px_expr.specs.Kernel.{all_kernels}
use Rattle.px_expr.specs.Plan.{catalog_of}
use Rattle.px_arena.specs.Runs.{ListRuns}
use Rattle.px_rules.proofs.Walks.{weights_at}
use Rattle.px_rules.proofs.driver.walks.Given as goal

abbrev pub invariant-loop-more : goal.invariant-loop-more
invariant-loop-more g l =
    (r : ℕ) × (l.steps ≡ l.fn.steps + r) × (l.count ≡ min r (2 ^ 64 - 1))
    × ListRuns (g.R.OptimizationRule.is_rewrite (catalog_of l.plan.schema.now (all_kernels (λ b. (goal.ColumnsUdf-dyn g (b.vtable, b.value)).declared b.value) (λ b. (goal.ColumnsUdf-dyn g (b.vtable, b.value)).answer b.value) l.plan.kernels.now.entries.items)) l.plan.context) (places l.roots) l.fn.arena l.arena r

abbrev pub decreases-loop-more : goal.decreases-loop-more
decreases-loop-more g l = weights_at l.arena (places l.roots)
