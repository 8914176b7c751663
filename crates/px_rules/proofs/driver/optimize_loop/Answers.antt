use Rattle.std.proofs.Common.{List, subst}
use Rattle.px_arena.specs.declared.node.Node.{Node}
use Rattle.px_expr.specs.Kernel.{all_kernels}
use Rattle.px_expr.specs.Plan.{catalog_of}
use Rattle.px_rules.specs.Plan.{KeepMeanings, places}
use Rattle.px_rules.proofs.Walks.{list_means}
use Rattle.px_rules.proofs.driver.optimize_loop.Goals as goal

pub returns-clause-meaning : goal.returns-clause-meaning
returns-clause-meaning g c =
    let plan = c.args.plan.now in
    let catalog = catalog_of plan.schema.now (all_kernels (λ b. (goal.ColumnsUdf-dyn g (b.vtable, b.value)).declared b.value) (λ b. (goal.ColumnsUdf-dyn g (b.vtable, b.value)).answer b.value) plan.kernels.now.entries.items) in
    let Rewrite = g.R.OptimizationRule.is_rewrite catalog plan.context in
    let keeps = g.met.R.OptimizationRule.keeps catalog plan.context in
    let (r, ticks, runs) = c.walks.ensures.runs in
    let means = list_means catalog plan.context Rewrite keeps (places c.as_slice.result.now) _ _ r runs in
    subst (λ (z : List Node). KeepMeanings catalog plan.context (places z) c.args.arena.now c.walks.new.arena) c.as_slice.ensures means
