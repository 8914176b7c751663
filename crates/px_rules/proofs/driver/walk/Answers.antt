use Rattle.std.proofs.Common.{◌+◌, arith}
use Rattle.px_rules.specs.Plan.{places}
use Rattle.px_expr.specs.Kernel.{all_kernels}
use Rattle.px_expr.specs.Plan.{catalog_of}
use Rattle.px_rules.proofs.Walks.{not_walked, root_checked, walk_runs, walked_more, walked_all, root_at, length-places}
use Rattle.px_rules.proofs.driver.walk.Goals as goal

pub loop-root-init : goal.loop-root-init
loop-root-init g c =
    let plan = c.args.plan.now in
    let catalog = catalog_of plan.schema.now (all_kernels (λ b. (goal.ColumnsUdf-dyn g (b.vtable, b.value)).declared b.value) (λ b. (goal.ColumnsUdf-dyn g (b.vtable, b.value)).answer b.value) plan.kernels.now.entries.items) in
    let Rewrite = g.R.OptimizationRule.is_rewrite catalog plan.context in
    (0, omega arith, omega arith, not_walked Rewrite _ _)

pub visit-requires : goal.visit-requires
visit-requires g c =
    let plan = c.args.plan.now in
    let catalog = catalog_of plan.schema.now (all_kernels (λ b. (goal.ColumnsUdf-dyn g (b.vtable, b.value)).declared b.value) (λ b. (goal.ColumnsUdf-dyn g (b.vtable, b.value)).answer b.value) plan.kernels.now.entries.items) in
    let Rewrite = g.R.OptimizationRule.is_rewrite catalog plan.context in
    let keeps = g.met.R.OptimizationRule.keeps catalog plan.context in
    let (r, ticks, count, w) = c.loop-root.invariant in
    let at = root_at c.args.roots.now c.loop-root.root-index (record { 0 = 0 }) (omega arith) in
    root_checked catalog plan.context Rewrite keeps (places c.args.roots.now) _ _ r c.loop-root.root-index _ w.runs c.requires at

pub returns-in_err-more-clause-runs : goal.returns-in_err-more-clause-runs
returns-in_err-more-clause-runs g c =
    let plan = c.args.plan.now in
    let catalog = catalog_of plan.schema.now (all_kernels (λ b. (goal.ColumnsUdf-dyn g (b.vtable, b.value)).declared b.value) (λ b. (goal.ColumnsUdf-dyn g (b.vtable, b.value)).answer b.value) plan.kernels.now.entries.items) in
    let Rewrite = g.R.OptimizationRule.is_rewrite catalog plan.context in
    let keeps = g.met.R.OptimizationRule.keeps catalog plan.context in
    let (r, ticks, count, w) = c.loop-root.invariant in
    let (s, more, run) = c.visit.ensures.runs in
    let at = root_at c.args.roots.now c.loop-root.root-index (record { 0 = 0 }) (omega arith) in
    (r + s, omega arith, walk_runs catalog plan.context Rewrite keeps (places c.args.roots.now) _ _ _ _ c.loop-root.root-index r s w.runs at run)

pub loop-root-preserved : goal.loop-root-preserved
loop-root-preserved g c =
    let plan = c.args.plan.now in
    let catalog = catalog_of plan.schema.now (all_kernels (λ b. (goal.ColumnsUdf-dyn g (b.vtable, b.value)).declared b.value) (λ b. (goal.ColumnsUdf-dyn g (b.vtable, b.value)).answer b.value) plan.kernels.now.entries.items) in
    let Rewrite = g.R.OptimizationRule.is_rewrite catalog plan.context in
    let keeps = g.met.R.OptimizationRule.keeps catalog plan.context in
    let (r, ticks, count, w) = c.loop-root.invariant in
    let (s, more, run) = c.visit.ensures.runs in
    let at = root_at c.args.roots.now c.loop-root.root-index (record { 0 = 0 }) (omega arith) in (
      r + s,
      omega arith,
      omega (arith, c.in_ok-more.ensures.count),
      walked_more catalog plan.context Rewrite keeps (places c.args.roots.now) _ _ _ _ c.loop-root.root-index r s c.requires w at run
          (λ none. c.in_ok-more.ensures.normal (omega arith)),
    )

pub returns-clause-normal : goal.returns-clause-normal
returns-clause-normal g c =
    let plan = c.args.plan.now in
    let catalog = catalog_of plan.schema.now (all_kernels (λ b. (goal.ColumnsUdf-dyn g (b.vtable, b.value)).declared b.value) (λ b. (goal.ColumnsUdf-dyn g (b.vtable, b.value)).answer b.value) plan.kernels.now.entries.items) in
    let Rewrite = g.R.OptimizationRule.is_rewrite catalog plan.context in
    let keeps = g.met.R.OptimizationRule.keeps catalog plan.context in
    let (r, ticks, count, w) = c.loop-root.invariant in
    let e = length-places c.args.roots.now in
    λ none. walked_all catalog plan.context Rewrite keeps (places c.args.roots.now) _ _ c.loop-root.root-index r w (omega arith) (omega arith)
