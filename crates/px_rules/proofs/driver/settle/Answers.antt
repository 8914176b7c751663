use Rattle.std.proofs.Common.{◌+◌, ◌<◌, arith, subst, sym, List, Option}
use Rattle.px_arena.specs.declared.node.AExpr.{AExpr}
use Rattle.px_arena.specs.Runs.{Offers, Runs, done}
use Rattle.px_rules.proofs.Turns.{turn, normal_place, run_checked, run_grown}
use Rattle.px_arena.proofs.Measure.{weight_at}
use Rattle.px_expr.specs.Kernel.{all_kernels}
use Rattle.px_expr.specs.Plan.{catalog_of}
use Rattle.px_rules.proofs.driver.settle.Goals as goal

pub loop-expr-init : goal.loop-expr-init
loop-expr-init g c =
    (0, omega arith, omega arith, done)

pub optimize_expr-requires : goal.optimize_expr-requires
optimize_expr-requires g c =
    let plan = c.args.plan.now in
    let catalog = catalog_of plan.schema.now (all_kernels (λ b. (goal.ColumnsUdf-dyn g (b.vtable, b.value)).declared b.value) (λ b. (goal.ColumnsUdf-dyn g (b.vtable, b.value)).answer b.value) plan.kernels.now.entries.items) in
    let Rewrite = g.R.OptimizationRule.is_rewrite catalog plan.context in
    let keeps = g.met.R.OptimizationRule.keeps catalog plan.context in
    let (r, ticks, count, run) = c.loop-expr.invariant in
    run_checked catalog plan.context Rewrite keeps c.args.node.0 _ _ r run c.requires

pub returns-in_err-expr-clause-runs : goal.returns-in_err-expr-clause-runs
returns-in_err-expr-clause-runs g c =
    let plan = c.args.plan.now in
    let catalog = catalog_of plan.schema.now (all_kernels (λ b. (goal.ColumnsUdf-dyn g (b.vtable, b.value)).declared b.value) (λ b. (goal.ColumnsUdf-dyn g (b.vtable, b.value)).answer b.value) plan.kernels.now.entries.items) in
    let Rewrite = g.R.OptimizationRule.is_rewrite catalog plan.context in
    let keeps = g.met.R.OptimizationRule.keeps catalog plan.context in
    let (r, ticks, count, run) = c.loop-expr.invariant in
    (r, ticks, run_grown Rewrite keeps.lighter c.args.node.0 _ _ _ r run c.optimize_expr.ensures.kept)

pub replace-requires-clause-within : goal.replace-requires-clause-within
replace-requires-clause-within g c =
    let plan = c.args.plan.now in
    let catalog = catalog_of plan.schema.now (all_kernels (λ b. (goal.ColumnsUdf-dyn g (b.vtable, b.value)).declared b.value) (λ b. (goal.ColumnsUdf-dyn g (b.vtable, b.value)).answer b.value) plan.kernels.now.entries.items) in
    let Rewrite = g.R.OptimizationRule.is_rewrite catalog plan.context in
    let keeps = g.met.R.OptimizationRule.keeps catalog plan.context in
    let (r, ticks, count, run) = c.loop-expr.invariant in
    let offer = subst (λ (o : Option AExpr). Offers Rewrite c.loop-expr.arena c.optimize_expr.new.arena c.args.node.0 o) c.in-Some.is c.in_ok-expr.ensures.answer in
    (turn Rewrite keeps.lighter c.args.node.0 _ _ _ c.in-Some.expr r run c.optimize_expr.ensures.kept offer).within

pub replace-requires-clause-inputs : goal.replace-requires-clause-inputs
replace-requires-clause-inputs g c =
    let plan = c.args.plan.now in
    let catalog = catalog_of plan.schema.now (all_kernels (λ b. (goal.ColumnsUdf-dyn g (b.vtable, b.value)).declared b.value) (λ b. (goal.ColumnsUdf-dyn g (b.vtable, b.value)).answer b.value) plan.kernels.now.entries.items) in
    let Rewrite = g.R.OptimizationRule.is_rewrite catalog plan.context in
    let keeps = g.met.R.OptimizationRule.keeps catalog plan.context in
    let (r, ticks, count, run) = c.loop-expr.invariant in
    let offer = subst (λ (o : Option AExpr). Offers Rewrite c.loop-expr.arena c.optimize_expr.new.arena c.args.node.0 o) c.in-Some.is c.in_ok-expr.ensures.answer in
    (turn Rewrite keeps.lighter c.args.node.0 _ _ _ c.in-Some.expr r run c.optimize_expr.ensures.kept offer).inputs

pub loop-expr-smaller : goal.loop-expr-smaller
loop-expr-smaller g c =
    let plan = c.args.plan.now in
    let catalog = catalog_of plan.schema.now (all_kernels (λ b. (goal.ColumnsUdf-dyn g (b.vtable, b.value)).declared b.value) (λ b. (goal.ColumnsUdf-dyn g (b.vtable, b.value)).answer b.value) plan.kernels.now.entries.items) in
    let Rewrite = g.R.OptimizationRule.is_rewrite catalog plan.context in
    let keeps = g.met.R.OptimizationRule.keeps catalog plan.context in
    let (r, ticks, count, run) = c.loop-expr.invariant in
    let offer = subst (λ (o : Option AExpr). Offers Rewrite c.loop-expr.arena c.optimize_expr.new.arena c.args.node.0 o) c.in-Some.is c.in_ok-expr.ensures.answer in
    let t = turn Rewrite keeps.lighter c.args.node.0 _ _ _ c.in-Some.expr r run c.optimize_expr.ensures.kept offer in
    subst (λ (z : List AExpr). weight_at z c.args.node.0 < weight_at c.loop-expr.arena c.args.node.0) (sym c.replace.ensures.items) t.falls

pub loop-expr-preserved : goal.loop-expr-preserved
loop-expr-preserved g c =
    let plan = c.args.plan.now in
    let catalog = catalog_of plan.schema.now (all_kernels (λ b. (goal.ColumnsUdf-dyn g (b.vtable, b.value)).declared b.value) (λ b. (goal.ColumnsUdf-dyn g (b.vtable, b.value)).answer b.value) plan.kernels.now.entries.items) in
    let Rewrite = g.R.OptimizationRule.is_rewrite catalog plan.context in
    let keeps = g.met.R.OptimizationRule.keeps catalog plan.context in
    let (r, ticks, count, run) = c.loop-expr.invariant in
    let offer = subst (λ (o : Option AExpr). Offers Rewrite c.loop-expr.arena c.optimize_expr.new.arena c.args.node.0 o) c.in-Some.is c.in_ok-expr.ensures.answer in
    let t = turn Rewrite keeps.lighter c.args.node.0 _ _ _ c.in-Some.expr r run c.optimize_expr.ensures.kept offer in (
      r + 1,
      omega arith,
      omega arith,
      subst (λ (z : List AExpr). Runs Rewrite c.args.node.0 c.args.arena.now z (r + 1)) (sym c.replace.ensures.items) t.runs,
    )

pub returns-clause-runs : goal.returns-clause-runs
returns-clause-runs g c =
    let plan = c.args.plan.now in
    let catalog = catalog_of plan.schema.now (all_kernels (λ b. (goal.ColumnsUdf-dyn g (b.vtable, b.value)).declared b.value) (λ b. (goal.ColumnsUdf-dyn g (b.vtable, b.value)).answer b.value) plan.kernels.now.entries.items) in
    let Rewrite = g.R.OptimizationRule.is_rewrite catalog plan.context in
    let keeps = g.met.R.OptimizationRule.keeps catalog plan.context in
    let (r, ticks, count, run) = c.loop-expr.invariant in
    (r, ticks, run_grown Rewrite keeps.lighter c.args.node.0 _ _ _ r run c.optimize_expr.ensures.kept)

pub returns-clause-normal : goal.returns-clause-normal
returns-clause-normal g c =
    let plan = c.args.plan.now in
    let catalog = catalog_of plan.schema.now (all_kernels (λ b. (goal.ColumnsUdf-dyn g (b.vtable, b.value)).declared b.value) (λ b. (goal.ColumnsUdf-dyn g (b.vtable, b.value)).answer b.value) plan.kernels.now.entries.items) in
    let Rewrite = g.R.OptimizationRule.is_rewrite catalog plan.context in
    let keeps = g.met.R.OptimizationRule.keeps catalog plan.context in
    let (r, ticks, count, run) = c.loop-expr.invariant in
    let none = subst (λ (o : Option AExpr). Offers Rewrite c.loop-expr.arena c.optimize_expr.new.arena c.args.node.0 o) c.in_default.is c.in_ok-expr.ensures.answer in
    normal_place catalog Rewrite c.args.node.0 _ _ (run_checked catalog plan.context Rewrite keeps c.args.node.0 _ _ r run c.requires) c.optimize_expr.ensures.kept none
