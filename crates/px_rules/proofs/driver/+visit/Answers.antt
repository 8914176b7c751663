use Rattle.std.proofs.Common.{◌≡◌, ◌+◌, ◌<◌, arith, sym, subst, ◌∙◌, Some}
use Rattle.std.proofs.lemmas.Option.{same_Some}
use Rattle.std.specs.List.{slice_get}
use Rattle.px_arena.specs.declared.node.AExpr.{AExpr}
use Rattle.px_arena.specs.Denotes.{inputs_of}
use Rattle.px_arena.proofs.Measure.{weight_at}
use Rattle.px_rules.proofs.Turns.{run_within}
use Rattle.px_rules.proofs.Visits.{next_checked, next_lighter, run_more, visited_more, visited_all}
use Rattle.px_expr.specs.Kernel.{all_kernels}
use Rattle.px_expr.specs.Plan.{catalog_of}
use Rattle.px_rules.proofs.driver.+visit.Goals as goal

pub get-requires : goal.get-requires
get-requires g t c =
    let plan = c.args.plan.now in
    let catalog = catalog_of plan.schema.now (all_kernels (λ b. (g.dyn-1.0.entry b.vtable).1.declared b.value) (λ b. (g.dyn-1.0.entry b.vtable).1.answer b.value) plan.kernels.now.entries.items) in
    let Rewrite = g.R.OptimizationRule.is_rewrite catalog plan.context in
    let keeps = g.met.R.OptimizationRule.keeps catalog plan.context in
    let (r, ticks, run) = c.settle.ensures.runs in
    run_within catalog plan.context Rewrite keeps c.args.node.0 _ _ r run c.requires

pub get-requires-in-loop-i : goal.get-requires-in-loop-i
get-requires-in-loop-i g t c =
    let plan = c.args.plan.now in
    let catalog = catalog_of plan.schema.now (all_kernels (λ b. (g.dyn-1.0.entry b.vtable).1.declared b.value) (λ b. (g.dyn-1.0.entry b.vtable).1.answer b.value) plan.kernels.now.entries.items) in
    let Rewrite = g.R.OptimizationRule.is_rewrite catalog plan.context in
    let keeps = g.met.R.OptimizationRule.keeps catalog plan.context in
    let (x, r, inputs, ticks, count, v) = c.loop-i.invariant in
    run_within catalog plan.context Rewrite keeps c.args.node.0 _ _ r v.runs c.requires

pub visit-requires : goal.visit-requires
visit-requires g t c κs within =
    let plan = c.args.plan.now in
    let catalog = catalog_of plan.schema.now (all_kernels (λ b. (g.dyn-1.0.entry b.vtable).1.declared b.value) (λ b. (g.dyn-1.0.entry b.vtable).1.answer b.value) plan.kernels.now.entries.items) in
    let Rewrite = g.R.OptimizationRule.is_rewrite catalog plan.context in
    let keeps = g.met.R.OptimizationRule.keeps catalog plan.context in
    let (x, r, inputs, ticks, count, v) = c.loop-i.invariant in
    let same : x ≡ c.get-in-loop-i.result.now = same_Some x c.get-in-loop-i.result.now (sym v.node ∙ c.get-in-loop-i.ensures) in
    let at : slice_get (inputs_of x) c.loop-i.i ≡ Some c.input-input.result.0 =
    subst (λ (z : AExpr). slice_get (inputs_of z) c.loop-i.i ≡ Some c.input-input.result.0) (sym same) c.input-input.ensures in
    let less : weight_at c.loop-i.arena c.input-input.result.0 < weight_at c.args.arena.now c.args.node.0 =
    next_lighter catalog plan.context Rewrite keeps c.args.node.0 c.input-input.result.0 _ _ x c.loop-i.i r c.requires v at in
    let start : weight_at c.args.arena.now c.args.node.0 ≡ t = c.decreases in
    let falls : weight_at c.loop-i.arena c.input-input.result.0 < t = omega arith in
    let denoted = next_checked catalog plan.context Rewrite keeps c.args.node.0 c.input-input.result.0 _ _ x c.loop-i.i r c.requires v at in
    (falls, (within.0, (within.1, denoted)))

pub returns-in_err-more-clause-runs : goal.returns-in_err-more-clause-runs
returns-in_err-more-clause-runs g t c =
    let plan = c.args.plan.now in
    let catalog = catalog_of plan.schema.now (all_kernels (λ b. (g.dyn-1.0.entry b.vtable).1.declared b.value) (λ b. (g.dyn-1.0.entry b.vtable).1.answer b.value) plan.kernels.now.entries.items) in
    let Rewrite = g.R.OptimizationRule.is_rewrite catalog plan.context in
    let keeps = g.met.R.OptimizationRule.keeps catalog plan.context in
    let (x, r, inputs, ticks, count, v) = c.loop-i.invariant in
    let (s, more, run) = c.visit.ensures.runs in
    let same : x ≡ c.get-in-loop-i.result.now = same_Some x c.get-in-loop-i.result.now (sym v.node ∙ c.get-in-loop-i.ensures) in
    let at : slice_get (inputs_of x) c.loop-i.i ≡ Some c.input-input.result.0 =
    subst (λ (z : AExpr). slice_get (inputs_of z) c.loop-i.i ≡ Some c.input-input.result.0) (sym same) c.input-input.ensures in (
      r + s,
      omega arith,
      run_more catalog plan.context Rewrite keeps c.args.node.0 c.input-input.result.0 _ _ _ x c.loop-i.i r s c.requires v at run,
    )

pub loop-i-preserved : goal.loop-i-preserved
loop-i-preserved g t c =
    let plan = c.args.plan.now in
    let catalog = catalog_of plan.schema.now (all_kernels (λ b. (g.dyn-1.0.entry b.vtable).1.declared b.value) (λ b. (g.dyn-1.0.entry b.vtable).1.answer b.value) plan.kernels.now.entries.items) in
    let Rewrite = g.R.OptimizationRule.is_rewrite catalog plan.context in
    let keeps = g.met.R.OptimizationRule.keeps catalog plan.context in
    let (x, r, inputs, ticks, count, v) = c.loop-i.invariant in
    let (s, more, run) = c.visit.ensures.runs in
    let same : x ≡ c.get-in-loop-i.result.now = same_Some x c.get-in-loop-i.result.now (sym v.node ∙ c.get-in-loop-i.ensures) in
    let at : slice_get (inputs_of x) c.loop-i.i ≡ Some c.input-input.result.0 =
    subst (λ (z : AExpr). slice_get (inputs_of z) c.loop-i.i ≡ Some c.input-input.result.0) (sym same) c.input-input.ensures in (
      x,
      r + s,
      inputs,
      omega arith,
      omega (arith, c.in_ok-more.ensures.count),
      visited_more catalog plan.context Rewrite keeps c.args.node.0 c.input-input.result.0 _ _ _ x c.loop-i.i r s c.requires v at run
          (λ none. c.in_ok-more.ensures.normal (omega arith)),
    )

pub returns-clause-normal : goal.returns-clause-normal
returns-clause-normal g t c =
    let plan = c.args.plan.now in
    let catalog = catalog_of plan.schema.now (all_kernels (λ b. (g.dyn-1.0.entry b.vtable).1.declared b.value) (λ b. (g.dyn-1.0.entry b.vtable).1.answer b.value) plan.kernels.now.entries.items) in
    let Rewrite = g.R.OptimizationRule.is_rewrite catalog plan.context in
    let keeps = g.met.R.OptimizationRule.keeps catalog plan.context in
    let (x, r, inputs, ticks, count, v) = c.loop-i.invariant in
    λ none. visited_all catalog plan.context Rewrite keeps c.args.node.0 _ _ x c.loop-i.i r v (omega arith) (omega arith)
