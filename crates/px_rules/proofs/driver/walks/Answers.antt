use Rattle.std.proofs.Common.{◌+◌, arith}
use Rattle.px_rules.specs.Plan.{places}
use Rattle.px_expr.specs.Kernel.{all_kernels}
use Rattle.px_expr.specs.Plan.{catalog_of}
use Rattle.px_arena.proofs.Runs.{list_runs_none, list_runs_join}
use Rattle.px_rules.proofs.Walks.{walk_lighter, list_checked}
use Rattle.px_rules.proofs.driver.walks.Goals as goal

pub loop-more-init : goal.loop-more-init
loop-more-init g c =
    let plan = c.args.plan.now in
    let catalog = catalog_of plan.schema.now (all_kernels (λ b. (goal.ColumnsUdf-dyn g (b.vtable, b.value)).declared b.value) (λ b. (goal.ColumnsUdf-dyn g (b.vtable, b.value)).answer b.value) plan.kernels.now.entries.items) in
    let Rewrite = g.R.OptimizationRule.is_rewrite catalog plan.context in
    (0, omega arith, omega arith, list_runs_none Rewrite _ _)

pub returns-in_err-more-clause-runs : goal.returns-in_err-more-clause-runs
returns-in_err-more-clause-runs g c =
    let plan = c.args.plan.now in
    let catalog = catalog_of plan.schema.now (all_kernels (λ b. (goal.ColumnsUdf-dyn g (b.vtable, b.value)).declared b.value) (λ b. (goal.ColumnsUdf-dyn g (b.vtable, b.value)).answer b.value) plan.kernels.now.entries.items) in
    let Rewrite = g.R.OptimizationRule.is_rewrite catalog plan.context in
    let (r, ticks, count, runs) = c.loop-more.invariant in
    let (s, more, walked) = c.walk.ensures.runs in
    (r + s, omega arith, list_runs_join Rewrite (places c.args.roots.now) _ _ _ r s runs walked)

pub returns-then-more-eq0-clause-runs : goal.returns-then-more-eq0-clause-runs
returns-then-more-eq0-clause-runs g c =
    let plan = c.args.plan.now in
    let catalog = catalog_of plan.schema.now (all_kernels (λ b. (goal.ColumnsUdf-dyn g (b.vtable, b.value)).declared b.value) (λ b. (goal.ColumnsUdf-dyn g (b.vtable, b.value)).answer b.value) plan.kernels.now.entries.items) in
    let Rewrite = g.R.OptimizationRule.is_rewrite catalog plan.context in
    let (r, ticks, count, runs) = c.loop-more.invariant in
    let (s, more, walked) = c.walk.ensures.runs in
    (r + s, omega arith, list_runs_join Rewrite (places c.args.roots.now) _ _ _ r s runs walked)

pub loop-more-smaller : goal.loop-more-smaller
loop-more-smaller g c =
    let plan = c.args.plan.now in
    let catalog = catalog_of plan.schema.now (all_kernels (λ b. (goal.ColumnsUdf-dyn g (b.vtable, b.value)).declared b.value) (λ b. (goal.ColumnsUdf-dyn g (b.vtable, b.value)).answer b.value) plan.kernels.now.entries.items) in
    let Rewrite = g.R.OptimizationRule.is_rewrite catalog plan.context in
    let keeps = g.met.R.OptimizationRule.keeps catalog plan.context in
    let (r, ticks, count, runs) = c.loop-more.invariant in
    let (s, more, walked) = c.walk.ensures.runs in
    walk_lighter catalog plan.context Rewrite keeps (places c.args.roots.now) _ _ _ r s c.requires runs walked (omega (arith, c.in_ok-more.ensures.count))

pub loop-more-preserved : goal.loop-more-preserved
loop-more-preserved g c =
    let plan = c.args.plan.now in
    let catalog = catalog_of plan.schema.now (all_kernels (λ b. (goal.ColumnsUdf-dyn g (b.vtable, b.value)).declared b.value) (λ b. (goal.ColumnsUdf-dyn g (b.vtable, b.value)).answer b.value) plan.kernels.now.entries.items) in
    let Rewrite = g.R.OptimizationRule.is_rewrite catalog plan.context in
    let (r, ticks, count, runs) = c.loop-more.invariant in
    let (s, more, walked) = c.walk.ensures.runs in (
      r + s,
      omega arith,
      omega (arith, c.in_ok-more.ensures.count),
      list_runs_join Rewrite (places c.args.roots.now) _ _ _ r s runs walked,
    )

pub walk-requires : goal.walk-requires
walk-requires g c =
    let plan = c.args.plan.now in
    let catalog = catalog_of plan.schema.now (all_kernels (λ b. (goal.ColumnsUdf-dyn g (b.vtable, b.value)).declared b.value) (λ b. (goal.ColumnsUdf-dyn g (b.vtable, b.value)).answer b.value) plan.kernels.now.entries.items) in
    let Rewrite = g.R.OptimizationRule.is_rewrite catalog plan.context in
    let keeps = g.met.R.OptimizationRule.keeps catalog plan.context in
    let (r, ticks, count, runs) = c.loop-more.invariant in
    list_checked catalog plan.context Rewrite keeps (places c.args.roots.now) _ _ r runs c.requires
