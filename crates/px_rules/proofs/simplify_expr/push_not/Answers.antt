use Rattle.std.proofs.Common.{◌≡◌, ◌<◌, ◌++◌, [], ◌∷◌, length, sym, ◌∙◌, ap, Some, not, arith, length-append}
use Rattle.px_functions.specs.declared.evaluated.EvaluatedBoolean.TheVariants.{Not}
use Rattle.px_arena.proofs.Measure.{denoted_within}
use Rattle.px_rules.specs.Negation.{boolean_call}
use Rattle.px_expr.specs.Kernel.{all_kernels}
use Rattle.px_expr.specs.Plan.{catalog_of}
use Rattle.px_rules.proofs.NegationRewrites.{input_within, operands_within, inner_within, no_not, no_inward, no_call, offer_boolean, offer_complement, offer_call, offer_two}
use Rattle.px_expr.specs.declared.literal.LiteralValue.TheVariants as lit
use Rattle.px_rules.proofs.KeptOptions.{keeps_literal, keeps_binary, keeps_two_nots, keeps_call}
use Rattle.px_rules.proofs.simplify_expr.push_not.Goals as goal

pub get-requires : goal.get-requires
get-requires g c = let (t, d, ok) = c.requires in denoted_within c.args.arena.now c.args.node.0 t d

pub returns-in_default-clause-answer : goal.returns-in_default-clause-answer
returns-in_default-clause-answer g c =
    no_not (catalog_of c.args.plan.now.schema.now (all_kernels (λ b. (goal.ColumnsUdf-dyn g (b.vtable, b.value)).declared b.value) (λ b. (goal.ColumnsUdf-dyn g (b.vtable, b.value)).answer b.value) c.args.plan.now.kernels.now.entries.items)) c.args.plan.now.context c.args.arena.now c.args.node.0 c.get.result.now c.get.ensures (sym c.not_of.ensures ∙ c.in_default.is)

pub get-under-requires : goal.get-under-requires
get-under-requires g c =
    input_within (catalog_of c.args.plan.now.schema.now (all_kernels (λ b. (goal.ColumnsUdf-dyn g (b.vtable, b.value)).declared b.value) (λ b. (goal.ColumnsUdf-dyn g (b.vtable, b.value)).answer b.value) c.args.plan.now.kernels.now.entries.items)) c.args.plan.now.context c.args.arena.now c.args.node.0 c.get.result.now c.in-Some.outer c.requires c.get.ensures (sym c.not_of.ensures ∙ c.in-Some.is)

pub add_not-requires : goal.add_not-requires
add_not-requires g c =
    let w = operands_within (catalog_of c.args.plan.now.schema.now (all_kernels (λ b. (goal.ColumnsUdf-dyn g (b.vtable, b.value)).declared b.value) (λ b. (goal.ColumnsUdf-dyn g (b.vtable, b.value)).answer b.value) c.args.plan.now.kernels.now.entries.items)) c.args.plan.now.context c.args.arena.now c.args.node.0 c.get.result.now c.get-under.result.now c.in-Some.outer c.in-Some-binary_of.inner c.requires c.get.ensures (sym c.not_of.ensures ∙ c.in-Some.is) c.get-under.ensures (sym c.binary_of.ensures ∙ c.in-Some-binary_of.is) in w.0

pub add_not-requires-in-Some-Dual : goal.add_not-requires-in-Some-Dual
add_not-requires-in-Some-Dual g c =
    let w = operands_within (catalog_of c.args.plan.now.schema.now (all_kernels (λ b. (goal.ColumnsUdf-dyn g (b.vtable, b.value)).declared b.value) (λ b. (goal.ColumnsUdf-dyn g (b.vtable, b.value)).answer b.value) c.args.plan.now.kernels.now.entries.items)) c.args.plan.now.context c.args.arena.now c.args.node.0 c.get.result.now c.get-under.result.now c.in-Some.outer c.in-Some-binary_of.inner c.requires c.get.ensures (sym c.not_of.ensures ∙ c.in-Some.is) c.get-under.ensures (sym c.binary_of.ensures ∙ c.in-Some-binary_of.is) in
    let lt : c.in-Some-binary_of.inner.right.0 < length c.args.arena.now = w.1 in
    let long : length c.add_not.new.arena ≡ length (c.args.arena.now ++ boolean_call Not c.in-Some-binary_of.inner.left c.in-Some.outer.options ∷ []) = ap length c.in_ok-left-in-Some-Dual.ensures.added in
    omega (arith, length-append c.args.arena.now (boolean_call Not c.in-Some-binary_of.inner.left c.in-Some.outer.options ∷ []))

pub negated_call-requires : goal.negated_call-requires
negated_call-requires g c =
    inner_within (catalog_of c.args.plan.now.schema.now (all_kernels (λ b. (goal.ColumnsUdf-dyn g (b.vtable, b.value)).declared b.value) (λ b. (goal.ColumnsUdf-dyn g (b.vtable, b.value)).answer b.value) c.args.plan.now.kernels.now.entries.items)) c.args.plan.now.context c.args.arena.now c.args.node.0 c.get.result.now c.get-under.result.now c.in-Some.outer c.in-Some-boolean_of.inner c.requires c.get.ensures (sym c.not_of.ensures ∙ c.in-Some.is) c.get-under.ensures (sym c.boolean_of.ensures ∙ c.in-Some-boolean_of.is)

pub returns-in-Some-boolean_literal_of-clause-answer : goal.returns-in-Some-boolean_literal_of-clause-answer
returns-in-Some-boolean_literal_of-clause-answer g c =
    offer_boolean (catalog_of c.args.plan.now.schema.now (all_kernels (λ b. (goal.ColumnsUdf-dyn g (b.vtable, b.value)).declared b.value) (λ b. (goal.ColumnsUdf-dyn g (b.vtable, b.value)).answer b.value) c.args.plan.now.kernels.now.entries.items)) c.args.plan.now.context c.args.arena.now c.args.node.0 c.get.result.now c.get-under.result.now c.in-Some.outer c.in-Some-boolean_literal_of.value c.requires c.get.ensures (sym c.not_of.ensures ∙ c.in-Some.is) c.get-under.ensures (sym c.boolean_literal_of.ensures ∙ c.in-Some-boolean_literal_of.is)

pub returns-in-None-inward-clause-answer : goal.returns-in-None-inward-clause-answer
returns-in-None-inward-clause-answer g c =
    no_inward (catalog_of c.args.plan.now.schema.now (all_kernels (λ b. (goal.ColumnsUdf-dyn g (b.vtable, b.value)).declared b.value) (λ b. (goal.ColumnsUdf-dyn g (b.vtable, b.value)).answer b.value) c.args.plan.now.kernels.now.entries.items)) c.args.plan.now.context c.args.arena.now c.args.node.0 c.get.result.now c.get-under.result.now c.in-Some.outer c.in-Some-binary_of.inner c.get.ensures (sym c.not_of.ensures ∙ c.in-Some.is) c.get-under.ensures (sym c.boolean_literal_of.ensures ∙ c.in-None.is) (sym c.binary_of.ensures ∙ c.in-Some-binary_of.is) (sym c.inward.ensures ∙ c.in-None-inward.is)

pub returns-in-Some-Complement-clause-answer : goal.returns-in-Some-Complement-clause-answer
returns-in-Some-Complement-clause-answer g c =
    offer_complement (catalog_of c.args.plan.now.schema.now (all_kernels (λ b. (goal.ColumnsUdf-dyn g (b.vtable, b.value)).declared b.value) (λ b. (goal.ColumnsUdf-dyn g (b.vtable, b.value)).answer b.value) c.args.plan.now.kernels.now.entries.items)) c.args.plan.now.context c.args.arena.now c.args.node.0 c.get.result.now c.get-under.result.now c.in-Some.outer c.in-Some-binary_of.inner c.in-Some-Complement.op c.requires c.get.ensures (sym c.not_of.ensures ∙ c.in-Some.is) c.get-under.ensures (sym c.binary_of.ensures ∙ c.in-Some-binary_of.is) (sym c.inward.ensures ∙ c.in-Some-Complement.is ∙ ap Some c.in-Some-Complement.field-0-is)

pub returns-in_ok-right-in-Some-Dual-clause-answer : goal.returns-in_ok-right-in-Some-Dual-clause-answer
returns-in_ok-right-in-Some-Dual-clause-answer g c =
    offer_two (catalog_of c.args.plan.now.schema.now (all_kernels (λ b. (goal.ColumnsUdf-dyn g (b.vtable, b.value)).declared b.value) (λ b. (goal.ColumnsUdf-dyn g (b.vtable, b.value)).answer b.value) c.args.plan.now.kernels.now.entries.items)) c.args.plan.now.context c.args.arena.now c.add_not.new.arena c.add_not-in-Some-Dual.new.arena c.args.node.0 c.get.result.now c.get-under.result.now c.in-Some.outer c.in-Some-binary_of.inner c.in-Some-Dual.op c.in_ok-left-in-Some-Dual.left c.in_ok-right-in-Some-Dual.right c.in-Some.outer.options c.requires c.get.ensures (sym c.not_of.ensures ∙ c.in-Some.is) c.get-under.ensures (sym c.binary_of.ensures ∙ c.in-Some-binary_of.is) (sym c.inward.ensures ∙ c.in-Some-Dual.is ∙ ap Some c.in-Some-Dual.field-0-is) c.in_ok-left-in-Some-Dual.ensures.next c.in_ok-left-in-Some-Dual.ensures.added c.in_ok-right-in-Some-Dual.ensures.next c.in_ok-right-in-Some-Dual.ensures.added

pub returns-in-None-boolean_of-clause-answer : goal.returns-in-None-boolean_of-clause-answer
returns-in-None-boolean_of-clause-answer g c =
    no_call (catalog_of c.args.plan.now.schema.now (all_kernels (λ b. (goal.ColumnsUdf-dyn g (b.vtable, b.value)).declared b.value) (λ b. (goal.ColumnsUdf-dyn g (b.vtable, b.value)).answer b.value) c.args.plan.now.kernels.now.entries.items)) c.args.plan.now.context c.args.arena.now c.args.node.0 c.get.result.now c.get-under.result.now c.in-Some.outer c.get.ensures (sym c.not_of.ensures ∙ c.in-Some.is) c.get-under.ensures (sym c.boolean_literal_of.ensures ∙ c.in-None.is) (sym c.binary_of.ensures ∙ c.in-None-binary_of.is) (sym c.boolean_of.ensures ∙ c.in-None-boolean_of.is)

pub returns-in-Some-boolean_literal_of-clause-options : goal.returns-in-Some-boolean_literal_of-clause-options
returns-in-Some-boolean_literal_of-clause-options g c = keeps_literal c.args.arena.now c.args.node.0 (lit.Boolean (not c.in-Some-boolean_literal_of.value))

pub returns-in-Some-Complement-clause-options : goal.returns-in-Some-Complement-clause-options
returns-in-Some-Complement-clause-options g c = keeps_binary c.args.arena.now c.args.node.0 c.in-Some-binary_of.inner.left c.in-Some-binary_of.inner.right c.in-Some-Complement.op

pub returns-in_ok-right-in-Some-Dual-clause-options : goal.returns-in_ok-right-in-Some-Dual-clause-options
returns-in_ok-right-in-Some-Dual-clause-options g c =
    keeps_two_nots c.args.arena.now c.add_not.new.arena c.add_not-in-Some-Dual.new.arena c.args.node.0 c.get.result.now c.in-Some.outer c.in-Some-binary_of.inner c.in_ok-left-in-Some-Dual.left c.in_ok-right-in-Some-Dual.right c.in-Some-Dual.op
    c.get.ensures (sym c.not_of.ensures ∙ c.in-Some.is) c.in_ok-left-in-Some-Dual.ensures.added c.in_ok-right-in-Some-Dual.ensures.added

pub returns-in_ok-negated-in-Some-boolean_of-clause-answer : goal.returns-in_ok-negated-in-Some-boolean_of-clause-answer
returns-in_ok-negated-in-Some-boolean_of-clause-answer g c =
    offer_call (catalog_of c.args.plan.now.schema.now (all_kernels (λ b. (goal.ColumnsUdf-dyn g (b.vtable, b.value)).declared b.value) (λ b. (goal.ColumnsUdf-dyn g (b.vtable, b.value)).answer b.value) c.args.plan.now.kernels.now.entries.items)) c.args.plan.now.context c.args.arena.now c.args.node.0 c.get.result.now c.get-under.result.now c.in_ok-negated-in-Some-boolean_of.negated c.in-Some.outer c.in-Some-boolean_of.inner c.requires c.get.ensures (sym c.not_of.ensures ∙ c.in-Some.is) c.get-under.ensures (sym c.boolean_of.ensures ∙ c.in-Some-boolean_of.is) c.in_ok-negated-in-Some-boolean_of.ensures.call

pub returns-in_ok-negated-in-Some-boolean_of-clause-options : goal.returns-in_ok-negated-in-Some-boolean_of-clause-options
returns-in_ok-negated-in-Some-boolean_of-clause-options g c =
    keeps_call c.args.arena.now c.args.node.0 c.get.result.now c.get-under.result.now c.in_ok-negated-in-Some-boolean_of.negated c.in-Some.outer c.in-Some-boolean_of.inner c.get.ensures (sym c.not_of.ensures ∙ c.in-Some.is) c.get-under.ensures (sym c.boolean_of.ensures ∙ c.in-Some-boolean_of.is) c.in_ok-negated-in-Some-boolean_of.ensures.call
