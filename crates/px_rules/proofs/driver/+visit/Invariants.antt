use Rattle.std.proofs.Common.{◌≡◌, ℕ, ◌+◌, ◌^◌, ◌-◌, min, length}
use Rattle.px_arena.specs.declared.node.AExpr.{AExpr}
use Rattle.px_arena.specs.Denotes.{inputs_of}
use Rattle.px_arena.proofs.Measure.{weight_at}
use Rattle.px_rules.proofs.Visits.{IsVisited}
use Rattle.px_expr.specs.Kernel.{all_kernels}
use Rattle.px_expr.specs.Plan.{catalog_of}
use Rattle.px_rules.proofs.driver.+visit.Given as goal

abbrev pub decreases-visit : goal.decreases-visit
decreases-visit g l = weight_at l.arena.now l.node.0

abbrev pub invariant-loop-i : goal.invariant-loop-i
invariant-loop-i g l =
    (x : AExpr) × (r : ℕ) × (l.inputs ≡ length (inputs_of x)) × (l.steps ≡ l.fn.steps + r) × (l.count ≡ min r (2 ^ 64 - 1))
    × IsVisited (g.R.OptimizationRule.is_rewrite (catalog_of l.plan.schema.now (all_kernels (λ b. (g.dyn-1.0.entry b.vtable).1.declared b.value) (λ b. (g.dyn-1.0.entry b.vtable).1.answer b.value) l.plan.kernels.now.entries.items)) l.plan.context) l.node.0 l.fn.arena l.arena x l.i r
