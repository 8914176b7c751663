use Rattle.std.proofs.Common.{Option, Some, ◌∙◌, subst}
use Rattle.px_meaning.specs.Rewrites.{IsRewrite}
use Rattle.px_arena.specs.declared.node.AExpr.{AExpr}
use Rattle.px_arena.specs.Runs.{Offers}
use Rattle.px_rules.specs.Groups.{expr_rule, boolean_rule, fused_rule, IsRewriteOf}
use Rattle.px_rules.specs.MadeOptions.{KeepsOptions}
use Rattle.px_rules.specs.Plan.{IsCheckedAt}
use Rattle.px_expr.specs.Kernel.{all_kernels}
use Rattle.px_expr.specs.Plan.{catalog_of}
use Rattle.px_rules.proofs.KeptOptions.{keeps_after}
use Rattle.px_rules.proofs.Parts.{grown_checked}
use Rattle.px_rules.proofs.Together.{offers_second, offers_third, if_ok}
use Rattle.px_rules.proofs.rules.AllRulesOptimizationRule.optimize_expr.Goals as goal

pub optimize_expr-requires-in-None : goal.optimize_expr-requires-in-None
optimize_expr-requires-in-None g c =
    let plan = c.args.plan.now in
    let catalog = catalog_of plan.schema.now (all_kernels (λ b. (goal.ColumnsUdf-dyn g (b.vtable, b.value)).declared b.value) (λ b. (goal.ColumnsUdf-dyn g (b.vtable, b.value)).answer b.value) plan.kernels.now.entries.items) in
    grown_checked catalog c.args.arena.now c.optimize_expr.new.arena c.args.node.0 c.optimize_expr.ensures.kept c.requires

pub optimize_expr-requires-in-None-2 : goal.optimize_expr-requires-in-None-2
optimize_expr-requires-in-None-2 g c =
    let plan = c.args.plan.now in
    let catalog = catalog_of plan.schema.now (all_kernels (λ b. (goal.ColumnsUdf-dyn g (b.vtable, b.value)).declared b.value) (λ b. (goal.ColumnsUdf-dyn g (b.vtable, b.value)).answer b.value) plan.kernels.now.entries.items) in
    let ok : IsCheckedAt catalog c.optimize_expr.new.arena c.args.node.0 = grown_checked catalog c.args.arena.now c.optimize_expr.new.arena c.args.node.0 c.optimize_expr.ensures.kept c.requires in
    grown_checked catalog c.optimize_expr.new.arena c.optimize_expr-in-None.new.arena c.args.node.0 c.optimize_expr-in-None.ensures.kept ok

pub returns-in-Some-2-clause-answer : goal.returns-in-Some-2-clause-answer
returns-in-Some-2-clause-answer g c =
    let plan = c.args.plan.now in
    let catalog = catalog_of plan.schema.now (all_kernels (λ b. (goal.ColumnsUdf-dyn g (b.vtable, b.value)).declared b.value) (λ b. (goal.ColumnsUdf-dyn g (b.vtable, b.value)).answer b.value) plan.kernels.now.entries.items) in
    let none = subst (λ (o : Option AExpr). Offers (IsRewriteOf expr_rule catalog plan.context) c.args.arena.now c.optimize_expr.new.arena c.args.node.0 o) c.in-None.is c.in_ok-expr.ensures.answer in
    let some = subst (λ (o : Option AExpr). Offers (IsRewriteOf boolean_rule catalog plan.context) c.optimize_expr.new.arena c.optimize_expr-in-None.new.arena c.args.node.0 o) c.in-Some-2.is c.in_ok-expr-in-None.ensures.answer in
    offers_second catalog plan.context c.args.arena.now c.optimize_expr.new.arena c.optimize_expr-in-None.new.arena c.args.node.0 c.in-Some-2.expr c.requires c.optimize_expr.ensures.kept none some

pub returns-in-None-2-clause-answer : goal.returns-in-None-2-clause-answer
returns-in-None-2-clause-answer g c =
    let plan = c.args.plan.now in
    let catalog = catalog_of plan.schema.now (all_kernels (λ b. (goal.ColumnsUdf-dyn g (b.vtable, b.value)).declared b.value) (λ b. (goal.ColumnsUdf-dyn g (b.vtable, b.value)).answer b.value) plan.kernels.now.entries.items) in
    let none = subst (λ (o : Option AExpr). Offers (IsRewriteOf expr_rule catalog plan.context) c.args.arena.now c.optimize_expr.new.arena c.args.node.0 o) c.in-None.is c.in_ok-expr.ensures.answer in
    let none2 = subst (λ (o : Option AExpr). Offers (IsRewriteOf boolean_rule catalog plan.context) c.optimize_expr.new.arena c.optimize_expr-in-None.new.arena c.args.node.0 o) c.in-None-2.is c.in_ok-expr-in-None.ensures.answer in
    if_ok (Offers (IsRewriteOf fused_rule catalog plan.context) c.optimize_expr-in-None.new.arena c.optimize_expr-in-None-2.new.arena c.args.node.0)
    (Offers (IsRewrite catalog plan.context) c.args.arena.now c.optimize_expr-in-None-2.new.arena c.args.node.0) c.optimize_expr-in-None-2.result
    (offers_third catalog plan.context c.args.arena.now c.optimize_expr.new.arena c.optimize_expr-in-None.new.arena c.optimize_expr-in-None-2.new.arena c.args.node.0 c.requires
    c.optimize_expr.ensures.kept c.optimize_expr-in-None.ensures.kept none none2)
    c.optimize_expr-in-None-2.ensures.answer

pub returns-in-Some-clause-options : goal.returns-in-Some-clause-options
returns-in-Some-clause-options g c = subst (λ (o : Option AExpr). KeepsOptions c.args.arena.now c.optimize_expr.new.arena c.args.node.0 o) c.in-Some.is c.in_ok-expr.ensures.options

pub returns-in-Some-2-clause-options : goal.returns-in-Some-2-clause-options
returns-in-Some-2-clause-options g c =
    let same = subst (λ (o : Option AExpr). KeepsOptions c.args.arena.now c.optimize_expr.new.arena c.args.node.0 o) c.in-None.is c.in_ok-expr.ensures.options in
    let some = subst (λ (o : Option AExpr). KeepsOptions c.optimize_expr.new.arena c.optimize_expr-in-None.new.arena c.args.node.0 o) c.in-Some-2.is c.in_ok-expr-in-None.ensures.options in
    keeps_after c.args.arena.now c.optimize_expr.new.arena c.optimize_expr-in-None.new.arena c.args.node.0 (Some c.in-Some-2.expr) same some

pub returns-in-None-2-clause-options : goal.returns-in-None-2-clause-options
returns-in-None-2-clause-options g c =
    let same = subst (λ (o : Option AExpr). KeepsOptions c.args.arena.now c.optimize_expr.new.arena c.args.node.0 o) c.in-None.is c.in_ok-expr.ensures.options in
    let same2 = subst (λ (o : Option AExpr). KeepsOptions c.optimize_expr.new.arena c.optimize_expr-in-None.new.arena c.args.node.0 o) c.in-None-2.is c.in_ok-expr-in-None.ensures.options in
    if_ok (KeepsOptions c.optimize_expr-in-None.new.arena c.optimize_expr-in-None-2.new.arena c.args.node.0) (KeepsOptions c.args.arena.now c.optimize_expr-in-None-2.new.arena c.args.node.0)
    c.optimize_expr-in-None-2.result
    (λ o h. keeps_after c.args.arena.now c.optimize_expr-in-None.new.arena c.optimize_expr-in-None-2.new.arena c.args.node.0 o (same2 ∙ same) h)
    c.optimize_expr-in-None-2.ensures.options
