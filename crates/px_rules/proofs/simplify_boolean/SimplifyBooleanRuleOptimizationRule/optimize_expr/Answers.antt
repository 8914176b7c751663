use Rattle.std.proofs.Common.{Option, subst}
use Rattle.px_arena.specs.declared.node.AExpr.{AExpr}
use Rattle.px_arena.specs.Runs.{Offers}
use Rattle.px_expr.specs.Kernel.{all_kernels}
use Rattle.px_expr.specs.Plan.{catalog_of}
use Rattle.px_rules.specs.Groups.{IsRewriteIn, boolean_operands}
use Rattle.px_rules.specs.MadeOptions.{KeepsOptions}
use Rattle.px_rules.proofs.Parts.{group_offers, boolean_offers}
use Rattle.px_rules.proofs.simplify_boolean.SimplifyBooleanRuleOptimizationRule.optimize_expr.Goals as goal

pub returns-in-Some-clause-answer : goal.returns-in-Some-clause-answer
returns-in-Some-clause-answer g c =
    let plan = c.args.plan.now in
    let catalog = catalog_of plan.schema.now (all_kernels (λ b. (goal.ColumnsUdf-dyn g (b.vtable, b.value)).declared b.value) (λ b. (goal.ColumnsUdf-dyn g (b.vtable, b.value)).answer b.value) plan.kernels.now.entries.items) in
    let some = subst (λ (o : Option AExpr). Offers (IsRewriteIn boolean_operands catalog plan.context) c.args.arena.now c.args.arena.now c.args.node.0 o) c.in-Some.is c.in_ok-expr.ensures.answer in
    group_offers catalog plan.context boolean_operands c.args.arena.now c.args.arena.now c.args.node.0 c.in-Some.expr some

pub returns-in-Some-clause-options : goal.returns-in-Some-clause-options
returns-in-Some-clause-options g c = subst (λ (o : Option AExpr). KeepsOptions c.args.arena.now c.args.arena.now c.args.node.0 o) c.in-Some.is c.in_ok-expr.ensures.options

pub returns-in-None-clause-answer : goal.returns-in-None-clause-answer
returns-in-None-clause-answer g c =
    let plan = c.args.plan.now in
    let catalog = catalog_of plan.schema.now (all_kernels (λ b. (goal.ColumnsUdf-dyn g (b.vtable, b.value)).declared b.value) (λ b. (goal.ColumnsUdf-dyn g (b.vtable, b.value)).answer b.value) plan.kernels.now.entries.items) in
    let none = subst (λ (o : Option AExpr). Offers (IsRewriteIn boolean_operands catalog plan.context) c.args.arena.now c.args.arena.now c.args.node.0 o) c.in-None.is c.in_ok-expr.ensures.answer in
    boolean_offers catalog plan.context c.args.arena.now c.args.node.0 c.negate_literal.result c.requires none c.negate_literal.ensures.answer
