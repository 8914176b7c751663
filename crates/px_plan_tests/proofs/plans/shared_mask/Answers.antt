use Rattle.std.proofs.Common.{map, sym, ◌∙◌}
use Rattle.px_expr.specs.Kernel.{all_kernels}
use Rattle.px_expr.specs.Plan.{catalog_of}
use Rattle.px_expr.specs.Tree.{tree_of}
use Rattle.px_plan.proofs.Shared.{mask_type}
use Rattle.px_plan_tests.proofs.plans.shared_mask.Goals as goal

pub twice-requires-clause-mask : goal.twice-requires-clause-mask
twice-requires-clause-mask g c =
    let catalog = catalog_of c.args.plan.now.schema.now (all_kernels (λ b. (goal.ColumnsUdf-dyn g (b.vtable, b.value)).declared b.value) (λ b. (goal.ColumnsUdf-dyn g (b.vtable, b.value)).answer b.value) c.args.plan.now.kernels.now.entries.items) in
    mask_type catalog c.args.plan.now.context (map tree_of c.args.exprs.now) c.in_ok-checked.checked.entries c.in-Some.mask.now c.in_ok-checked.ensures.answer (sym (rw c.in-Some.is at c.get.ensures)) (sym c.value_type.ensures ∙ c.in-Boolean.is)

pub twice_by_boolean_rule-requires : goal.twice_by_boolean_rule-requires
twice_by_boolean_rule-requires g c =
    let catalog = catalog_of c.args.plan.now.schema.now (all_kernels (λ b. (goal.ColumnsUdf-dyn g (b.vtable, b.value)).declared b.value) (λ b. (goal.ColumnsUdf-dyn g (b.vtable, b.value)).answer b.value) c.args.plan.now.kernels.now.entries.items) in
    mask_type catalog c.args.plan.now.context (map tree_of c.args.exprs.now) c.in_ok-checked.checked.entries c.in-Some.mask.now c.in_ok-checked.ensures.answer (sym (rw c.in-Some.is at c.get.ensures)) (sym c.value_type.ensures ∙ c.in-Boolean.is)

pub beside_itself-requires-clause-mask : goal.beside_itself-requires-clause-mask
beside_itself-requires-clause-mask g c =
    let catalog = catalog_of c.args.plan.now.schema.now (all_kernels (λ b. (goal.ColumnsUdf-dyn g (b.vtable, b.value)).declared b.value) (λ b. (goal.ColumnsUdf-dyn g (b.vtable, b.value)).answer b.value) c.args.plan.now.kernels.now.entries.items) in
    mask_type catalog c.args.plan.now.context (map tree_of c.args.exprs.now) c.in_ok-checked.checked.entries c.in-Some.mask.now c.in_ok-checked.ensures.answer (sym (rw c.in-Some.is at c.get.ensures)) (sym c.value_type.ensures ∙ c.in-Boolean.is)
