use Rattle.std.proofs.Common.{sym, ◌∙◌, ap}
use Rattle.std.specs.Option.{option_copied}
use Rattle.px_arena.proofs.Measure.{denoted_within}
use Rattle.px_expr.specs.Kernel.{all_kernels}
use Rattle.px_expr.specs.Plan.{catalog_of}
use Rattle.px_rules.proofs.FoldRewrites.{input_within, no_negate, no_literal, no_negation, offer_complement}
use Rattle.px_rules.proofs.KeptOptions.{keeps_literal}
use Rattle.px_rules.proofs.simplify_boolean.negate_literal.Goals as goal

pub get-requires : goal.get-requires
get-requires g c = let (t, d, ok) = c.requires in denoted_within c.args.arena.now c.args.node.0 t d

pub returns-in_default-clause-answer : goal.returns-in_default-clause-answer
returns-in_default-clause-answer g c =
    no_negate (catalog_of c.args.plan.now.schema.now (all_kernels (λ b. (goal.ColumnsUdf-dyn g (b.vtable, b.value)).declared b.value) (λ b. (goal.ColumnsUdf-dyn g (b.vtable, b.value)).answer b.value) c.args.plan.now.kernels.now.entries.items)) c.args.plan.now.context c.args.arena.now c.args.node.0 c.get.result.now c.get.ensures (sym c.negate_of.ensures ∙ c.in_default.is)

pub get-requires-2 : goal.get-requires-2
get-requires-2 g c =
    input_within (catalog_of c.args.plan.now.schema.now (all_kernels (λ b. (goal.ColumnsUdf-dyn g (b.vtable, b.value)).declared b.value) (λ b. (goal.ColumnsUdf-dyn g (b.vtable, b.value)).answer b.value) c.args.plan.now.kernels.now.entries.items)) c.args.plan.now.context c.args.arena.now c.args.node.0 c.get.result.now c.in-Some.input c.requires c.get.ensures (sym c.negate_of.ensures ∙ c.in-Some.is)

pub returns-in_default-literal_of-clause-answer : goal.returns-in_default-literal_of-clause-answer
returns-in_default-literal_of-clause-answer g c =
    no_literal (catalog_of c.args.plan.now.schema.now (all_kernels (λ b. (goal.ColumnsUdf-dyn g (b.vtable, b.value)).declared b.value) (λ b. (goal.ColumnsUdf-dyn g (b.vtable, b.value)).answer b.value) c.args.plan.now.kernels.now.entries.items)) c.args.plan.now.context c.args.arena.now c.args.node.0 c.get.result.now c.get-2.result.now c.in-Some.input c.get.ensures (sym c.negate_of.ensures ∙ c.in-Some.is) c.get-2.ensures (sym c.literal_of.ensures ∙ ap option_copied c.in_default-literal_of.is)

pub returns-in-Some-negated_literal-clause-answer : goal.returns-in-Some-negated_literal-clause-answer
returns-in-Some-negated_literal-clause-answer g c =
    offer_complement (catalog_of c.args.plan.now.schema.now (all_kernels (λ b. (goal.ColumnsUdf-dyn g (b.vtable, b.value)).declared b.value) (λ b. (goal.ColumnsUdf-dyn g (b.vtable, b.value)).answer b.value) c.args.plan.now.kernels.now.entries.items)) c.args.plan.now.context c.args.arena.now c.args.node.0 c.get.result.now c.get-2.result.now c.in-Some.input c.in-Some-literal_of.value.now c.in-Some-negated_literal.negated c.requires c.get.ensures (sym c.negate_of.ensures ∙ c.in-Some.is) c.get-2.ensures (sym c.literal_of.ensures ∙ ap option_copied c.in-Some-literal_of.is) (sym c.negated_literal.ensures ∙ c.in-Some-negated_literal.is)

pub returns-in-None-clause-answer : goal.returns-in-None-clause-answer
returns-in-None-clause-answer g c =
    no_negation (catalog_of c.args.plan.now.schema.now (all_kernels (λ b. (goal.ColumnsUdf-dyn g (b.vtable, b.value)).declared b.value) (λ b. (goal.ColumnsUdf-dyn g (b.vtable, b.value)).answer b.value) c.args.plan.now.kernels.now.entries.items)) c.args.plan.now.context c.args.arena.now c.args.node.0 c.get.result.now c.get-2.result.now c.in-Some.input c.in-Some-literal_of.value.now c.get.ensures (sym c.negate_of.ensures ∙ c.in-Some.is) c.get-2.ensures (sym c.literal_of.ensures ∙ ap option_copied c.in-Some-literal_of.is) (sym c.negated_literal.ensures ∙ c.in-None.is)

pub returns-in-Some-negated_literal-clause-options : goal.returns-in-Some-negated_literal-clause-options
returns-in-Some-negated_literal-clause-options g c = keeps_literal c.args.arena.now c.args.node.0 c.in-Some-negated_literal.negated
