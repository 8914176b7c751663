use Rattle.px_arena.specs.Runs.{Offers}
use Rattle.px_expr.specs.Kernel.{all_kernels}
use Rattle.px_expr.specs.Plan.{catalog_of}
use Rattle.px_rules.specs.Groups.{IsRewriteIn, IsRewriteOf, fused_products, fused_rule}
use Rattle.px_rules.proofs.Parts.{fused_offers}
use Rattle.px_rules.proofs.Together.{if_ok}
use Rattle.px_rules.proofs.fused.FusedArithmeticOptimizationRule.optimize_expr.Goals as goal

pub returns-clause-answer : goal.returns-clause-answer
returns-clause-answer g c =
    let plan = c.args.plan.now in
    let catalog = catalog_of plan.schema.now (all_kernels (λ b. (goal.ColumnsUdf-dyn g (b.vtable, b.value)).declared b.value) (λ b. (goal.ColumnsUdf-dyn g (b.vtable, b.value)).answer b.value) plan.kernels.now.entries.items) in
    if_ok (Offers (IsRewriteIn fused_products catalog plan.context) c.args.arena.now c.fuse.new.arena c.args.node.0) (Offers (IsRewriteOf fused_rule catalog plan.context) c.args.arena.now c.fuse.new.arena c.args.node.0) c.fuse.result
    (fused_offers catalog plan.context c.args.arena.now c.fuse.new.arena c.args.node.0) c.fuse.ensures.answer
