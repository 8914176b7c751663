use Rattle.std.proofs.Common.{sym, ◌∙◌, ap}
use Rattle.std.specs.Option.{option_copied}
use Rattle.px_arena.proofs.Measure.{denoted_within}
use Rattle.px_expr.specs.Kernel.{all_kernels}
use Rattle.px_expr.specs.Plan.{catalog_of}
use Rattle.px_rules.proofs.FoldRewrites.{left_within, right_within, no_binary, no_left, no_right, no_fold, offer_fold}
use Rattle.px_rules.proofs.KeptOptions.{keeps_literal}
use Rattle.px_rules.proofs.simplify_expr.fold.Goals as goal

pub get-requires : goal.get-requires
get-requires g c = let (t, d, ok) = c.requires in denoted_within c.args.arena.now c.args.node.0 t d

pub returns-in_default-clause-answer : goal.returns-in_default-clause-answer
returns-in_default-clause-answer g c =
    no_binary (catalog_of c.args.plan.now.schema.now (all_kernels (λ b. (goal.ColumnsUdf-dyn g (b.vtable, b.value)).declared b.value) (λ b. (goal.ColumnsUdf-dyn g (b.vtable, b.value)).answer b.value) c.args.plan.now.kernels.now.entries.items)) c.args.plan.now.context c.args.arena.now c.args.node.0 c.get.result.now c.get.ensures (sym c.binary_of.ensures ∙ c.in_default.is)

pub get-requires-2 : goal.get-requires-2
get-requires-2 g c =
    left_within (catalog_of c.args.plan.now.schema.now (all_kernels (λ b. (goal.ColumnsUdf-dyn g (b.vtable, b.value)).declared b.value) (λ b. (goal.ColumnsUdf-dyn g (b.vtable, b.value)).answer b.value) c.args.plan.now.kernels.now.entries.items)) c.args.plan.now.context c.args.arena.now c.args.node.0 c.get.result.now c.in-Some.parts c.requires c.get.ensures (sym c.binary_of.ensures ∙ c.in-Some.is)

pub returns-in_default-literal_of-clause-answer : goal.returns-in_default-literal_of-clause-answer
returns-in_default-literal_of-clause-answer g c =
    no_left (catalog_of c.args.plan.now.schema.now (all_kernels (λ b. (goal.ColumnsUdf-dyn g (b.vtable, b.value)).declared b.value) (λ b. (goal.ColumnsUdf-dyn g (b.vtable, b.value)).answer b.value) c.args.plan.now.kernels.now.entries.items)) c.args.plan.now.context c.args.arena.now c.args.node.0 c.get.result.now c.get-2.result.now c.in-Some.parts c.get.ensures (sym c.binary_of.ensures ∙ c.in-Some.is) c.get-2.ensures (sym c.literal_of.ensures ∙ ap option_copied c.in_default-literal_of.is)

pub get-requires-3 : goal.get-requires-3
get-requires-3 g c =
    right_within (catalog_of c.args.plan.now.schema.now (all_kernels (λ b. (goal.ColumnsUdf-dyn g (b.vtable, b.value)).declared b.value) (λ b. (goal.ColumnsUdf-dyn g (b.vtable, b.value)).answer b.value) c.args.plan.now.kernels.now.entries.items)) c.args.plan.now.context c.args.arena.now c.args.node.0 c.get.result.now c.in-Some.parts c.requires c.get.ensures (sym c.binary_of.ensures ∙ c.in-Some.is)

pub returns-in_default-literal_of-2-clause-answer : goal.returns-in_default-literal_of-2-clause-answer
returns-in_default-literal_of-2-clause-answer g c =
    no_right (catalog_of c.args.plan.now.schema.now (all_kernels (λ b. (goal.ColumnsUdf-dyn g (b.vtable, b.value)).declared b.value) (λ b. (goal.ColumnsUdf-dyn g (b.vtable, b.value)).answer b.value) c.args.plan.now.kernels.now.entries.items)) c.args.plan.now.context c.args.arena.now c.args.node.0 c.get.result.now c.get-3.result.now c.in-Some.parts c.get.ensures (sym c.binary_of.ensures ∙ c.in-Some.is) c.get-3.ensures (sym c.literal_of-2.ensures ∙ ap option_copied c.in_default-literal_of-2.is)

pub returns-in-Some-fold_literals-clause-answer : goal.returns-in-Some-fold_literals-clause-answer
returns-in-Some-fold_literals-clause-answer g c =
    offer_fold (catalog_of c.args.plan.now.schema.now (all_kernels (λ b. (goal.ColumnsUdf-dyn g (b.vtable, b.value)).declared b.value) (λ b. (goal.ColumnsUdf-dyn g (b.vtable, b.value)).answer b.value) c.args.plan.now.kernels.now.entries.items)) c.args.plan.now.context c.args.arena.now c.args.node.0 c.get.result.now c.get-2.result.now c.get-3.result.now c.in-Some.parts c.in-Some-literal_of.left.now c.in-Some-literal_of-2.right.now c.in-Some-fold_literals.value c.requires c.get.ensures (sym c.binary_of.ensures ∙ c.in-Some.is) c.get-2.ensures (sym c.literal_of.ensures ∙ ap option_copied c.in-Some-literal_of.is) c.get-3.ensures (sym c.literal_of-2.ensures ∙ ap option_copied c.in-Some-literal_of-2.is) (sym c.fold_literals.ensures ∙ c.in-Some-fold_literals.is)

pub returns-in-None-clause-answer : goal.returns-in-None-clause-answer
returns-in-None-clause-answer g c =
    no_fold (catalog_of c.args.plan.now.schema.now (all_kernels (λ b. (goal.ColumnsUdf-dyn g (b.vtable, b.value)).declared b.value) (λ b. (goal.ColumnsUdf-dyn g (b.vtable, b.value)).answer b.value) c.args.plan.now.kernels.now.entries.items)) c.args.plan.now.context c.args.arena.now c.args.node.0 c.get.result.now c.get-2.result.now c.get-3.result.now c.in-Some.parts c.in-Some-literal_of.left.now c.in-Some-literal_of-2.right.now c.get.ensures (sym c.binary_of.ensures ∙ c.in-Some.is) c.get-2.ensures (sym c.literal_of.ensures ∙ ap option_copied c.in-Some-literal_of.is) c.get-3.ensures (sym c.literal_of-2.ensures ∙ ap option_copied c.in-Some-literal_of-2.is) (sym c.fold_literals.ensures ∙ c.in-None.is)

pub returns-in-Some-fold_literals-clause-options : goal.returns-in-Some-fold_literals-clause-options
returns-in-Some-fold_literals-clause-options g c = keeps_literal c.args.arena.now c.args.node.0 c.in-Some-fold_literals.value
