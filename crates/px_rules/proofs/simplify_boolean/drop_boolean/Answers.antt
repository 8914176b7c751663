use Rattle.std.proofs.Common.{◌≡◌, true, Some, None, sym, ◌∙◌, ap}
use Rattle.px_arena.proofs.Measure.{denoted_within}
use Rattle.px_rules.specs.declared.simplify_boolean.Outcome.TheVariants.{Other, Absorbed}
use Rattle.px_expr.specs.Kernel.{all_kernels}
use Rattle.px_expr.specs.Plan.{catalog_of}
use Rattle.px_rules.specs.Booleans.{decided, in_filter}
use Rattle.px_rules.specs.Views.{boolean_literal_of, is_scalar_literal}
use Rattle.px_rules.proofs.BooleanRewrites.{operands, operands_within, no_binary, no_absorbing, nothing_decided, offer_left, offer_right, offer_absorbed_left, offer_absorbed_right}
use Rattle.px_expr.specs.declared.literal.LiteralValue.TheVariants as lit
use Rattle.px_rules.proofs.KeptOptions.{keeps_literal, keeps_left, keeps_right}
use Rattle.px_rules.proofs.simplify_boolean.drop_boolean.Goals as goal

pub get-requires : goal.get-requires
get-requires g c = let (t, d, ok) = c.requires in denoted_within c.args.arena.now c.args.node.0 t d

pub returns-in_default-clause-answer : goal.returns-in_default-clause-answer
returns-in_default-clause-answer g c =
    no_binary (catalog_of c.args.plan.now.schema.now (all_kernels (λ b. (goal.ColumnsUdf-dyn g (b.vtable, b.value)).declared b.value) (λ b. (goal.ColumnsUdf-dyn g (b.vtable, b.value)).answer b.value) c.args.plan.now.kernels.now.entries.items)) c.args.plan.now.context c.args.arena.now c.args.node.0 c.get.result.now c.get.ensures (sym c.binary_of.ensures ∙ c.in_default.is)

pub returns-in_default-absorbing-clause-answer : goal.returns-in_default-absorbing-clause-answer
returns-in_default-absorbing-clause-answer g c =
    no_absorbing (catalog_of c.args.plan.now.schema.now (all_kernels (λ b. (goal.ColumnsUdf-dyn g (b.vtable, b.value)).declared b.value) (λ b. (goal.ColumnsUdf-dyn g (b.vtable, b.value)).answer b.value) c.args.plan.now.kernels.now.entries.items)) c.args.plan.now.context c.args.arena.now c.args.node.0 c.get.result.now c.in-Some.parts c.get.ensures (sym c.binary_of.ensures ∙ c.in-Some.is) (sym c.absorbing.ensures ∙ c.in_default-absorbing.is)

pub get-left-requires : goal.get-left-requires
get-left-requires g c =
    let (t, u, dt, du) = operands_within (catalog_of c.args.plan.now.schema.now (all_kernels (λ b. (goal.ColumnsUdf-dyn g (b.vtable, b.value)).declared b.value) (λ b. (goal.ColumnsUdf-dyn g (b.vtable, b.value)).answer b.value) c.args.plan.now.kernels.now.entries.items)) c.args.plan.now.context c.args.arena.now c.args.node.0 c.get.result.now c.in-Some.parts c.requires c.get.ensures (sym c.binary_of.ensures ∙ c.in-Some.is) in
    denoted_within c.args.arena.now c.in-Some.parts.left.0 t dt

pub get-right-requires : goal.get-right-requires
get-right-requires g c =
    let (t, u, dt, du) = operands_within (catalog_of c.args.plan.now.schema.now (all_kernels (λ b. (goal.ColumnsUdf-dyn g (b.vtable, b.value)).declared b.value) (λ b. (goal.ColumnsUdf-dyn g (b.vtable, b.value)).answer b.value) c.args.plan.now.kernels.now.entries.items)) c.args.plan.now.context c.args.arena.now c.args.node.0 c.get.result.now c.in-Some.parts c.requires c.get.ensures (sym c.binary_of.ensures ∙ c.in-Some.is) in
    denoted_within c.args.arena.now c.in-Some.parts.right.0 u du

pub returns-in_ok-copy-in-Some-Other-clause-answer : goal.returns-in_ok-copy-in-Some-Other-clause-answer
returns-in_ok-copy-in-Some-Other-clause-answer g c =
    let k = operands (catalog_of c.args.plan.now.schema.now (all_kernels (λ b. (goal.ColumnsUdf-dyn g (b.vtable, b.value)).declared b.value) (λ b. (goal.ColumnsUdf-dyn g (b.vtable, b.value)).answer b.value) c.args.plan.now.kernels.now.entries.items)) c.args.plan.now.context c.args.arena.now c.args.node.0 c.get.result.now c.get-left.result.now c.get-right.result.now c.in-Some.parts c.requires c.get.ensures (sym c.binary_of.ensures ∙ c.in-Some.is) c.get-left.ensures c.get-right.ensures in
    let dec : decided c.in-Some-absorbing.absorbing true (is_scalar_literal c.get-left.result.now) (boolean_literal_of c.get-right.result.now) ≡ Some Other = rw (sym c.is_scalar_literal.ensures, sym c.boolean_literal_of.ensures) (sym c.decided.ensures ∙ c.in-Some-Other.is ∙ ap Some c.in-Some-Other.field-0-is) in
    let copy = c.in_ok-copy-in-Some-Other in
    offer_left (catalog_of c.args.plan.now.schema.now (all_kernels (λ b. (goal.ColumnsUdf-dyn g (b.vtable, b.value)).declared b.value) (λ b. (goal.ColumnsUdf-dyn g (b.vtable, b.value)).answer b.value) c.args.plan.now.kernels.now.entries.items)) c.args.plan.now.context c.args.arena.now c.args.node.0 c.get.result.now c.get-left.result.now c.get-right.result.now copy.copy c.in-Some.parts c.in-Some-absorbing.absorbing (is_scalar_literal c.get-left.result.now) k (sym c.absorbing.ensures ∙ c.in-Some-absorbing.is) dec (c.get-left.ensures ∙ ap Some (sym copy.ensures))

pub returns-in-Some-Absorbed-clause-answer : goal.returns-in-Some-Absorbed-clause-answer
returns-in-Some-Absorbed-clause-answer g c =
    let k = operands (catalog_of c.args.plan.now.schema.now (all_kernels (λ b. (goal.ColumnsUdf-dyn g (b.vtable, b.value)).declared b.value) (λ b. (goal.ColumnsUdf-dyn g (b.vtable, b.value)).answer b.value) c.args.plan.now.kernels.now.entries.items)) c.args.plan.now.context c.args.arena.now c.args.node.0 c.get.result.now c.get-left.result.now c.get-right.result.now c.in-Some.parts c.requires c.get.ensures (sym c.binary_of.ensures ∙ c.in-Some.is) c.get-left.ensures c.get-right.ensures in
    let dec : decided c.in-Some-absorbing.absorbing true (is_scalar_literal c.get-left.result.now) (boolean_literal_of c.get-right.result.now) ≡ Some Absorbed = rw (sym c.is_scalar_literal.ensures, sym c.boolean_literal_of.ensures) (sym c.decided.ensures ∙ c.in-Some-Absorbed.is ∙ ap Some c.in-Some-Absorbed.field-0-is) in
    offer_absorbed_right (catalog_of c.args.plan.now.schema.now (all_kernels (λ b. (goal.ColumnsUdf-dyn g (b.vtable, b.value)).declared b.value) (λ b. (goal.ColumnsUdf-dyn g (b.vtable, b.value)).answer b.value) c.args.plan.now.kernels.now.entries.items)) c.args.plan.now.context c.args.arena.now c.args.node.0 c.get.result.now c.get-left.result.now c.get-right.result.now c.in-Some.parts c.in-Some-absorbing.absorbing k (sym c.absorbing.ensures ∙ c.in-Some-absorbing.is) dec

pub returns-in_ok-copy-in-Some-Other-decided-clause-answer : goal.returns-in_ok-copy-in-Some-Other-decided-clause-answer
returns-in_ok-copy-in-Some-Other-decided-clause-answer g c =
    let k = operands (catalog_of c.args.plan.now.schema.now (all_kernels (λ b. (goal.ColumnsUdf-dyn g (b.vtable, b.value)).declared b.value) (λ b. (goal.ColumnsUdf-dyn g (b.vtable, b.value)).answer b.value) c.args.plan.now.kernels.now.entries.items)) c.args.plan.now.context c.args.arena.now c.args.node.0 c.get.result.now c.get-left.result.now c.get-right.result.now c.in-Some.parts c.requires c.get.ensures (sym c.binary_of.ensures ∙ c.in-Some.is) c.get-left.ensures c.get-right.ensures in
    let dec : decided c.in-Some-absorbing.absorbing (in_filter c.args.plan.now.context) (is_scalar_literal c.get-right.result.now) (boolean_literal_of c.get-left.result.now) ≡ Some Other = rw (sym c.in_filter.ensures, sym c.is_scalar_literal-in-None.ensures, sym c.boolean_literal_of-in-None.ensures) (sym c.decided-in-None.ensures ∙ c.in-Some-Other-decided.is ∙ ap Some c.in-Some-Other-decided.field-0-is) in
    let copy = c.in_ok-copy-in-Some-Other-decided in
    offer_right (catalog_of c.args.plan.now.schema.now (all_kernels (λ b. (goal.ColumnsUdf-dyn g (b.vtable, b.value)).declared b.value) (λ b. (goal.ColumnsUdf-dyn g (b.vtable, b.value)).answer b.value) c.args.plan.now.kernels.now.entries.items)) c.args.plan.now.context c.args.arena.now c.args.node.0 c.get.result.now c.get-left.result.now c.get-right.result.now copy.copy c.in-Some.parts c.in-Some-absorbing.absorbing (is_scalar_literal c.get-right.result.now) k (sym c.absorbing.ensures ∙ c.in-Some-absorbing.is) dec (c.get-right.ensures ∙ ap Some (sym copy.ensures))

pub returns-in-Some-Absorbed-decided-clause-answer : goal.returns-in-Some-Absorbed-decided-clause-answer
returns-in-Some-Absorbed-decided-clause-answer g c =
    let k = operands (catalog_of c.args.plan.now.schema.now (all_kernels (λ b. (goal.ColumnsUdf-dyn g (b.vtable, b.value)).declared b.value) (λ b. (goal.ColumnsUdf-dyn g (b.vtable, b.value)).answer b.value) c.args.plan.now.kernels.now.entries.items)) c.args.plan.now.context c.args.arena.now c.args.node.0 c.get.result.now c.get-left.result.now c.get-right.result.now c.in-Some.parts c.requires c.get.ensures (sym c.binary_of.ensures ∙ c.in-Some.is) c.get-left.ensures c.get-right.ensures in
    let dec : decided c.in-Some-absorbing.absorbing (in_filter c.args.plan.now.context) (is_scalar_literal c.get-right.result.now) (boolean_literal_of c.get-left.result.now) ≡ Some Absorbed = rw (sym c.in_filter.ensures, sym c.is_scalar_literal-in-None.ensures, sym c.boolean_literal_of-in-None.ensures) (sym c.decided-in-None.ensures ∙ c.in-Some-Absorbed-decided.is ∙ ap Some c.in-Some-Absorbed-decided.field-0-is) in
    offer_absorbed_left (catalog_of c.args.plan.now.schema.now (all_kernels (λ b. (goal.ColumnsUdf-dyn g (b.vtable, b.value)).declared b.value) (λ b. (goal.ColumnsUdf-dyn g (b.vtable, b.value)).answer b.value) c.args.plan.now.kernels.now.entries.items)) c.args.plan.now.context c.args.arena.now c.args.node.0 c.get.result.now c.get-left.result.now c.get-right.result.now c.in-Some.parts c.in-Some-absorbing.absorbing (in_filter c.args.plan.now.context) k (sym c.absorbing.ensures ∙ c.in-Some-absorbing.is) dec

pub returns-in-None-decided-clause-answer : goal.returns-in-None-decided-clause-answer
returns-in-None-decided-clause-answer g c =
    let right : decided c.in-Some-absorbing.absorbing true (is_scalar_literal c.get-left.result.now) (boolean_literal_of c.get-right.result.now) ≡ None = rw (sym c.is_scalar_literal.ensures, sym c.boolean_literal_of.ensures) (sym c.decided.ensures ∙ c.in-None.is) in
    let left : decided c.in-Some-absorbing.absorbing (in_filter c.args.plan.now.context) (is_scalar_literal c.get-right.result.now) (boolean_literal_of c.get-left.result.now) ≡ None = rw (sym c.in_filter.ensures, sym c.is_scalar_literal-in-None.ensures, sym c.boolean_literal_of-in-None.ensures) (sym c.decided-in-None.ensures ∙ c.in-None-decided.is) in
    nothing_decided (catalog_of c.args.plan.now.schema.now (all_kernels (λ b. (goal.ColumnsUdf-dyn g (b.vtable, b.value)).declared b.value) (λ b. (goal.ColumnsUdf-dyn g (b.vtable, b.value)).answer b.value) c.args.plan.now.kernels.now.entries.items)) c.args.plan.now.context c.args.arena.now c.args.node.0 c.get.result.now c.get-left.result.now c.get-right.result.now c.in-Some.parts c.in-Some-absorbing.absorbing c.get.ensures (sym c.binary_of.ensures ∙ c.in-Some.is) c.get-left.ensures c.get-right.ensures (sym c.absorbing.ensures ∙ c.in-Some-absorbing.is) right left

pub returns-in_ok-copy-in-Some-Other-clause-options : goal.returns-in_ok-copy-in-Some-Other-clause-options
returns-in_ok-copy-in-Some-Other-clause-options g c =
    let copy = c.in_ok-copy-in-Some-Other in
    keeps_left c.args.arena.now c.args.node.0 c.get.result.now copy.copy c.in-Some.parts c.get.ensures (sym c.binary_of.ensures ∙ c.in-Some.is) (c.get-left.ensures ∙ ap Some (sym copy.ensures))

pub returns-in-Some-Absorbed-clause-options : goal.returns-in-Some-Absorbed-clause-options
returns-in-Some-Absorbed-clause-options g c = keeps_literal c.args.arena.now c.args.node.0 (lit.Boolean c.in-Some-absorbing.absorbing)

pub returns-in_ok-copy-in-Some-Other-decided-clause-options : goal.returns-in_ok-copy-in-Some-Other-decided-clause-options
returns-in_ok-copy-in-Some-Other-decided-clause-options g c =
    let copy = c.in_ok-copy-in-Some-Other-decided in
    keeps_right c.args.arena.now c.args.node.0 c.get.result.now copy.copy c.in-Some.parts c.get.ensures (sym c.binary_of.ensures ∙ c.in-Some.is) (c.get-right.ensures ∙ ap Some (sym copy.ensures))

pub returns-in-Some-Absorbed-decided-clause-options : goal.returns-in-Some-Absorbed-decided-clause-options
returns-in-Some-Absorbed-decided-clause-options g c = keeps_literal c.args.arena.now c.args.node.0 (lit.Boolean c.in-Some-absorbing.absorbing)
