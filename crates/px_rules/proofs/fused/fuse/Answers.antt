use Rattle.std.proofs.Common.{◌≡◌, true, ◌&&◌, Some, None, sym, ◌∙◌, subst}
use Rattle.px_expr.specs.Tree.{Tree}
use Rattle.px_arena.specs.declared.node.AExpr.{AExpr}
use Rattle.px_arena.specs.Denotes.{Denotes}
use Rattle.px_arena.specs.Runs.{Offers}
use Rattle.px_arena.proofs.Measure.{denoted_within}
use Rattle.px_rules.specs.Fusion.{fused_by, product_of, is_literal_free}
use Rattle.px_expr.specs.Kernel.{all_kernels}
use Rattle.px_expr.specs.Plan.{catalog_of}
use Rattle.px_rules.proofs.FusedRewrites.{FuseRewrite, operands, left_denotes, right_denotes, no_binary, no_fusion, not_free, offer_plain, offer_named, fused_within}
use Rattle.px_rules.proofs.KeptOptions.{keeps_fused, keeps_named}
use Rattle.px_rules.proofs.fused.fuse.Goals as goal

pub get-requires : goal.get-requires
get-requires g c = let (t, d, ok) = c.requires in denoted_within c.args.arena.now c.args.node.0 t d

pub returns-in_default-clause-answer : goal.returns-in_default-clause-answer
returns-in_default-clause-answer g c =
    no_binary (catalog_of c.args.plan.now.schema.now (all_kernels (λ b. (goal.ColumnsUdf-dyn g (b.vtable, b.value)).declared b.value) (λ b. (goal.ColumnsUdf-dyn g (b.vtable, b.value)).answer b.value) c.args.plan.now.kernels.now.entries.items)) c.args.plan.now.context c.args.arena.now c.args.node.0 c.get.result.now c.get.ensures (sym c.binary_of.ensures ∙ c.in_default.is)

pub get-requires-2 : goal.get-requires-2
get-requires-2 g c =
    let (t, d) = left_denotes (catalog_of c.args.plan.now.schema.now (all_kernels (λ b. (goal.ColumnsUdf-dyn g (b.vtable, b.value)).declared b.value) (λ b. (goal.ColumnsUdf-dyn g (b.vtable, b.value)).answer b.value) c.args.plan.now.kernels.now.entries.items)) c.args.plan.now.context c.args.arena.now c.args.node.0 c.get.result.now c.in-Some.outer c.requires c.get.ensures (sym c.binary_of.ensures ∙ c.in-Some.is) in denoted_within c.args.arena.now c.in-Some.outer.left.0 t d

pub get-requires-3 : goal.get-requires-3
get-requires-3 g c =
    let (t, d) = right_denotes (catalog_of c.args.plan.now.schema.now (all_kernels (λ b. (goal.ColumnsUdf-dyn g (b.vtable, b.value)).declared b.value) (λ b. (goal.ColumnsUdf-dyn g (b.vtable, b.value)).answer b.value) c.args.plan.now.kernels.now.entries.items)) c.args.plan.now.context c.args.arena.now c.args.node.0 c.get.result.now c.in-Some.outer c.requires c.get.ensures (sym c.binary_of.ensures ∙ c.in-Some.is) in denoted_within c.args.arena.now c.in-Some.outer.right.0 t d

pub both_literal_free-requires-clause-left : goal.both_literal_free-requires-clause-left
both_literal_free-requires-clause-left g c =
    left_denotes (catalog_of c.args.plan.now.schema.now (all_kernels (λ b. (goal.ColumnsUdf-dyn g (b.vtable, b.value)).declared b.value) (λ b. (goal.ColumnsUdf-dyn g (b.vtable, b.value)).answer b.value) c.args.plan.now.kernels.now.entries.items)) c.args.plan.now.context c.args.arena.now c.args.node.0 c.get.result.now c.in-Some.outer c.requires c.get.ensures (sym c.binary_of.ensures ∙ c.in-Some.is)

pub both_literal_free-requires-clause-right : goal.both_literal_free-requires-clause-right
both_literal_free-requires-clause-right g c =
    right_denotes (catalog_of c.args.plan.now.schema.now (all_kernels (λ b. (goal.ColumnsUdf-dyn g (b.vtable, b.value)).declared b.value) (λ b. (goal.ColumnsUdf-dyn g (b.vtable, b.value)).answer b.value) c.args.plan.now.kernels.now.entries.items)) c.args.plan.now.context c.args.arena.now c.args.node.0 c.get.result.now c.in-Some.outer c.requires c.get.ensures (sym c.binary_of.ensures ∙ c.in-Some.is)

pub name_at-requires : goal.name_at-requires
name_at-requires g c =
    left_denotes (catalog_of c.args.plan.now.schema.now (all_kernels (λ b. (goal.ColumnsUdf-dyn g (b.vtable, b.value)).declared b.value) (λ b. (goal.ColumnsUdf-dyn g (b.vtable, b.value)).answer b.value) c.args.plan.now.kernels.now.entries.items)) c.args.plan.now.context c.args.arena.now c.args.node.0 c.get.result.now c.in-Some.outer c.requires c.get.ensures (sym c.binary_of.ensures ∙ c.in-Some.is)

pub returns-then-not-both_literal_free-clause-answer : goal.returns-then-not-both_literal_free-clause-answer
returns-then-not-both_literal_free-clause-answer g c =
    not_free (catalog_of c.args.plan.now.schema.now (all_kernels (λ b. (goal.ColumnsUdf-dyn g (b.vtable, b.value)).declared b.value) (λ b. (goal.ColumnsUdf-dyn g (b.vtable, b.value)).answer b.value) c.args.plan.now.kernels.now.entries.items)) c.args.plan.now.context c.args.arena.now c.args.node.0 c.get.result.now c.in-Some.outer c.get.ensures (sym c.binary_of.ensures ∙ c.in-Some.is) (λ u v d d'. sym c.if-not-both_literal_free.true ∙ c.both_literal_free.ensures u v d d')

pub returns-in-None-clause-answer : goal.returns-in-None-clause-answer
returns-in-None-clause-answer g c =
    let none : fused_by c.in-Some.outer.op c.in-Some.outer.left c.in-Some.outer.right (product_of c.get-2.result.now) (product_of c.get-3.result.now) ≡ None = rw (sym c.product_of-left_product.ensures, sym c.product_of-right_product.ensures) (sym c.fused_by.ensures ∙ c.in-None.is) in
    no_fusion (catalog_of c.args.plan.now.schema.now (all_kernels (λ b. (goal.ColumnsUdf-dyn g (b.vtable, b.value)).declared b.value) (λ b. (goal.ColumnsUdf-dyn g (b.vtable, b.value)).answer b.value) c.args.plan.now.kernels.now.entries.items)) c.args.plan.now.context c.args.arena.now c.args.node.0 c.get.result.now c.get-2.result.now c.get-3.result.now c.in-Some.outer c.get.ensures (sym c.binary_of.ensures ∙ c.in-Some.is) c.get-2.ensures c.get-3.ensures none

pub returns-in_ok-fused-in-Some-fused_by-clause-answer : goal.returns-in_ok-fused-in-Some-fused_by-clause-answer
returns-in_ok-fused-in-Some-fused_by-clause-answer g c =
    let k = operands (catalog_of c.args.plan.now.schema.now (all_kernels (λ b. (goal.ColumnsUdf-dyn g (b.vtable, b.value)).declared b.value) (λ b. (goal.ColumnsUdf-dyn g (b.vtable, b.value)).answer b.value) c.args.plan.now.kernels.now.entries.items)) c.args.plan.now.context c.args.arena.now c.args.node.0 c.get.result.now c.get-2.result.now c.get-3.result.now c.in-Some.outer c.requires c.get.ensures (sym c.binary_of.ensures ∙ c.in-Some.is) c.get-2.ensures c.get-3.ensures in
    let fuses : fused_by c.in-Some.outer.op c.in-Some.outer.left c.in-Some.outer.right (product_of c.get-2.result.now) (product_of c.get-3.result.now) ≡ Some c.in-Some-fused_by.fusion = rw (sym c.product_of-left_product.ensures, sym c.product_of-right_product.ensures) (sym c.fused_by.ensures ∙ c.in-Some-fused_by.is) in
    let free : (u v : Tree) → Denotes c.args.arena.now c.in-Some.outer.left.0 u → Denotes c.args.arena.now c.in-Some.outer.right.0 v → true ≡ (is_literal_free u && is_literal_free v) = λ u v d d'. sym c.if-not-both_literal_free.false ∙ c.both_literal_free.ensures u v d d' in
    let answer = offer_plain (catalog_of c.args.plan.now.schema.now (all_kernels (λ b. (goal.ColumnsUdf-dyn g (b.vtable, b.value)).declared b.value) (λ b. (goal.ColumnsUdf-dyn g (b.vtable, b.value)).answer b.value) c.args.plan.now.kernels.now.entries.items)) c.args.plan.now.context c.args.arena.now c.args.node.0 c.get.result.now c.get-2.result.now c.get-3.result.now c.in-Some.outer c.in-Some-fused_by.fusion k free fuses c.if-fusion.false in
    subst (λ (e : AExpr). Offers (FuseRewrite (catalog_of c.args.plan.now.schema.now (all_kernels (λ b. (goal.ColumnsUdf-dyn g (b.vtable, b.value)).declared b.value) (λ b. (goal.ColumnsUdf-dyn g (b.vtable, b.value)).answer b.value) c.args.plan.now.kernels.now.entries.items)) c.args.plan.now.context) c.args.arena.now c.args.arena.now c.args.node.0 (Some e)) (sym c.in_ok-fused-in-Some-fused_by.ensures.call) answer

pub add_fused-requires : goal.add_fused-requires
add_fused-requires g c =
    let k = operands (catalog_of c.args.plan.now.schema.now (all_kernels (λ b. (goal.ColumnsUdf-dyn g (b.vtable, b.value)).declared b.value) (λ b. (goal.ColumnsUdf-dyn g (b.vtable, b.value)).answer b.value) c.args.plan.now.kernels.now.entries.items)) c.args.plan.now.context c.args.arena.now c.args.node.0 c.get.result.now c.get-2.result.now c.get-3.result.now c.in-Some.outer c.requires c.get.ensures (sym c.binary_of.ensures ∙ c.in-Some.is) c.get-2.ensures c.get-3.ensures in
    let fuses : fused_by c.in-Some.outer.op c.in-Some.outer.left c.in-Some.outer.right (product_of c.get-2.result.now) (product_of c.get-3.result.now) ≡ Some c.in-Some-fused_by.fusion = rw (sym c.product_of-left_product.ensures, sym c.product_of-right_product.ensures) (sym c.fused_by.ensures ∙ c.in-Some-fused_by.is) in
    fused_within (catalog_of c.args.plan.now.schema.now (all_kernels (λ b. (goal.ColumnsUdf-dyn g (b.vtable, b.value)).declared b.value) (λ b. (goal.ColumnsUdf-dyn g (b.vtable, b.value)).answer b.value) c.args.plan.now.kernels.now.entries.items)) c.args.plan.now.context c.args.arena.now c.args.node.0 c.get.result.now c.get-2.result.now c.get-3.result.now c.in-Some.outer c.in-Some-fused_by.fusion k fuses c.if-fusion.true

pub returns-then-fusion-clause-answer : goal.returns-then-fusion-clause-answer
returns-then-fusion-clause-answer g c =
    let k = operands (catalog_of c.args.plan.now.schema.now (all_kernels (λ b. (goal.ColumnsUdf-dyn g (b.vtable, b.value)).declared b.value) (λ b. (goal.ColumnsUdf-dyn g (b.vtable, b.value)).answer b.value) c.args.plan.now.kernels.now.entries.items)) c.args.plan.now.context c.args.arena.now c.args.node.0 c.get.result.now c.get-2.result.now c.get-3.result.now c.in-Some.outer c.requires c.get.ensures (sym c.binary_of.ensures ∙ c.in-Some.is) c.get-2.ensures c.get-3.ensures in
    let fuses : fused_by c.in-Some.outer.op c.in-Some.outer.left c.in-Some.outer.right (product_of c.get-2.result.now) (product_of c.get-3.result.now) ≡ Some c.in-Some-fused_by.fusion = rw (sym c.product_of-left_product.ensures, sym c.product_of-right_product.ensures) (sym c.fused_by.ensures ∙ c.in-Some-fused_by.is) in
    let free : (u v : Tree) → Denotes c.args.arena.now c.in-Some.outer.left.0 u → Denotes c.args.arena.now c.in-Some.outer.right.0 v → true ≡ (is_literal_free u && is_literal_free v) = λ u v d d'. sym c.if-not-both_literal_free.false ∙ c.both_literal_free.ensures u v d d' in
    offer_named (catalog_of c.args.plan.now.schema.now (all_kernels (λ b. (goal.ColumnsUdf-dyn g (b.vtable, b.value)).declared b.value) (λ b. (goal.ColumnsUdf-dyn g (b.vtable, b.value)).answer b.value) c.args.plan.now.kernels.now.entries.items)) c.args.plan.now.context c.args.arena.now c.add_fused.new.arena c.args.node.0 c.get.result.now c.get-2.result.now c.get-3.result.now c.in-Some.outer c.in-Some-fused_by.fusion c.in_ok-place-in-Some-fused_by.place c.in_ok-name-in-Some-fused_by.name k free fuses c.if-fusion.true (λ u d. c.in_ok-name-in-Some-fused_by.ensures.name u d) c.in_ok-place-in-Some-fused_by.ensures.next c.in_ok-place-in-Some-fused_by.ensures.added

pub returns-in_ok-fused-in-Some-fused_by-clause-options : goal.returns-in_ok-fused-in-Some-fused_by-clause-options
returns-in_ok-fused-in-Some-fused_by-clause-options g c = keeps_fused c.args.arena.now c.args.node.0 c.in_ok-fused-in-Some-fused_by.fused c.in-Some-fused_by.fusion c.in_ok-fused-in-Some-fused_by.ensures.call

pub returns-then-fusion-clause-options : goal.returns-then-fusion-clause-options
returns-then-fusion-clause-options g c =
    keeps_named c.args.arena.now c.add_fused.new.arena c.args.node.0 c.in-Some-fused_by.fusion c.in_ok-place-in-Some-fused_by.place c.in_ok-name-in-Some-fused_by.name c.in_ok-place-in-Some-fused_by.ensures.added
