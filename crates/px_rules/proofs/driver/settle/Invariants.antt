use Rattle.std.proofs.Common.{◌≡◌, ℕ, ◌+◌, ◌^◌, ◌-◌, min}
use Rattle.px_arena.specs.Runs.{Runs}
use Rattle.px_arena.proofs.Measure.{weight_at}
use Rattle.px_expr.specs.Kernel.{all_kernels}
use Rattle.px_expr.specs.Plan.{catalog_of}
use Rattle.px_rules.proofs.driver.settle.Given as goal

abbrev pub invariant-loop-expr : goal.invariant-loop-expr
invariant-loop-expr g l =
    (r : ℕ) × (l.steps ≡ l.initial.steps + r) × (l.count ≡ min r (2 ^ 64 - 1))
    × Runs (g.R.OptimizationRule.is_rewrite (catalog_of l.plan.schema.now (all_kernels (λ b. (goal.ColumnsUdf-dyn g (b.vtable, b.value)).declared b.value) (λ b. (goal.ColumnsUdf-dyn g (b.vtable, b.value)).answer b.value) l.plan.kernels.now.entries.items)) l.plan.context) l.node.0 l.initial.arena l.arena r

abbrev pub decreases-loop-expr : goal.decreases-loop-expr
decreases-loop-expr g l = weight_at l.arena l.node.0
