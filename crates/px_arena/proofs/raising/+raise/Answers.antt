use Rattle.std.proofs.Common.{◌≡◌, ◌+◌, ◌*◌, ◌<◌, ap, sym, ◌∙◌, subst, Some, get_or, arith}
use Rattle.px_expr.specs.declared.expr.Expr.TheVariants as expr
use Rattle.px_expr.specs.declared.expr.AggExpr.{AggExpr}
use Rattle.px_arena.specs.declared.node.AExpr.TheVariants as ir
use Rattle.px_arena.specs.Denotes.{first, later, expr_places}
use Rattle.px_arena.specs.Lowered.{StandsFor}
use Rattle.px_arena.proofs.Measure.{weight_at, sum_of, denoted_within}
use Rattle.px_arena.proofs.Stands.{stands-Function, stands-AnonymousFunction}
use Rattle.px_arena.proofs.Raises.{has_inputs, has_input, agg_is_in, stands-Agg, has_place, raised_more}
use Rattle.px_arena.proofs.raising.+raise.Goals as goal

pub raise_expr-get-requires : goal.raise_expr-get-requires
raise_expr-get-requires t c =
    let (u, d) = c.requires in denoted_within c.args.arena.now c.args.node.0 u d

pub raise_expr-raise_boxed-requires : goal.raise_expr-raise_boxed-requires
raise_expr-raise_boxed-requires t c =
    let (u, d) = c.requires in
    let input = has_input c.args.arena.now c.args.node.0 c.in-Alias.input.0 _ u d (c.get.ensures ∙ ap Some c.in-Alias.is) first in
    let less : weight_at c.args.arena.now c.in-Alias.input.0 < weight_at c.args.arena.now c.args.node.0 = input.lighter in
    let start : 2 * weight_at c.args.arena.now c.args.node.0 ≡ t = c.decreases in
    let falls : 2 * weight_at c.args.arena.now c.in-Alias.input.0 + 1 < t = omega arith in
    (falls, input.denoted)

pub raise_expr-raise_boxed-requires-in-BinaryExpr : goal.raise_expr-raise_boxed-requires-in-BinaryExpr
raise_expr-raise_boxed-requires-in-BinaryExpr t c =
    let (u, d) = c.requires in
    let input = has_input c.args.arena.now c.args.node.0 c.in-BinaryExpr.left.0 _ u d (c.get.ensures ∙ ap Some c.in-BinaryExpr.is) first in
    let less : weight_at c.args.arena.now c.in-BinaryExpr.left.0 < weight_at c.args.arena.now c.args.node.0 = input.lighter in
    let start : 2 * weight_at c.args.arena.now c.args.node.0 ≡ t = c.decreases in
    let falls : 2 * weight_at c.args.arena.now c.in-BinaryExpr.left.0 + 1 < t = omega arith in
    (falls, input.denoted)

pub raise_expr-raise_boxed-requires-in-BinaryExpr-2 : goal.raise_expr-raise_boxed-requires-in-BinaryExpr-2
raise_expr-raise_boxed-requires-in-BinaryExpr-2 t c =
    let (u, d) = c.requires in
    let input = has_input c.args.arena.now c.args.node.0 c.in-BinaryExpr.right.0 _ u d (c.get.ensures ∙ ap Some c.in-BinaryExpr.is) (later first) in
    let less : weight_at c.args.arena.now c.in-BinaryExpr.right.0 < weight_at c.args.arena.now c.args.node.0 = input.lighter in
    let start : 2 * weight_at c.args.arena.now c.args.node.0 ≡ t = c.decreases in
    let falls : 2 * weight_at c.args.arena.now c.in-BinaryExpr.right.0 + 1 < t = omega arith in
    (falls, input.denoted)

pub raise_expr-raise_boxed-requires-in-Cast : goal.raise_expr-raise_boxed-requires-in-Cast
raise_expr-raise_boxed-requires-in-Cast t c =
    let (u, d) = c.requires in
    let input = has_input c.args.arena.now c.args.node.0 c.in-Cast.expr.0 _ u d (c.get.ensures ∙ ap Some c.in-Cast.is) first in
    let less : weight_at c.args.arena.now c.in-Cast.expr.0 < weight_at c.args.arena.now c.args.node.0 = input.lighter in
    let start : 2 * weight_at c.args.arena.now c.args.node.0 ≡ t = c.decreases in
    let falls : 2 * weight_at c.args.arena.now c.in-Cast.expr.0 + 1 < t = omega arith in
    (falls, input.denoted)

pub raise_expr-raise_boxed-requires-in-Gather : goal.raise_expr-raise_boxed-requires-in-Gather
raise_expr-raise_boxed-requires-in-Gather t c =
    let (u, d) = c.requires in
    let input = has_input c.args.arena.now c.args.node.0 c.in-Gather.expr.0 _ u d (c.get.ensures ∙ ap Some c.in-Gather.is) first in
    let less : weight_at c.args.arena.now c.in-Gather.expr.0 < weight_at c.args.arena.now c.args.node.0 = input.lighter in
    let start : 2 * weight_at c.args.arena.now c.args.node.0 ≡ t = c.decreases in
    let falls : 2 * weight_at c.args.arena.now c.in-Gather.expr.0 + 1 < t = omega arith in
    (falls, input.denoted)

pub raise_expr-raise_boxed-requires-in-Gather-2 : goal.raise_expr-raise_boxed-requires-in-Gather-2
raise_expr-raise_boxed-requires-in-Gather-2 t c =
    let (u, d) = c.requires in
    let input = has_input c.args.arena.now c.args.node.0 c.in-Gather.idx.0 _ u d (c.get.ensures ∙ ap Some c.in-Gather.is) (later first) in
    let less : weight_at c.args.arena.now c.in-Gather.idx.0 < weight_at c.args.arena.now c.args.node.0 = input.lighter in
    let start : 2 * weight_at c.args.arena.now c.args.node.0 ≡ t = c.decreases in
    let falls : 2 * weight_at c.args.arena.now c.in-Gather.idx.0 + 1 < t = omega arith in
    (falls, input.denoted)

pub raise_expr-raise_boxed-requires-in-Slice : goal.raise_expr-raise_boxed-requires-in-Slice
raise_expr-raise_boxed-requires-in-Slice t c =
    let (u, d) = c.requires in
    let input = has_input c.args.arena.now c.args.node.0 c.in-Slice.input.0 _ u d (c.get.ensures ∙ ap Some c.in-Slice.is) first in
    let less : weight_at c.args.arena.now c.in-Slice.input.0 < weight_at c.args.arena.now c.args.node.0 = input.lighter in
    let start : 2 * weight_at c.args.arena.now c.args.node.0 ≡ t = c.decreases in
    let falls : 2 * weight_at c.args.arena.now c.in-Slice.input.0 + 1 < t = omega arith in
    (falls, input.denoted)

pub raise_expr-raise_boxed-requires-in-Slice-2 : goal.raise_expr-raise_boxed-requires-in-Slice-2
raise_expr-raise_boxed-requires-in-Slice-2 t c =
    let (u, d) = c.requires in
    let input = has_input c.args.arena.now c.args.node.0 c.in-Slice.offset.0 _ u d (c.get.ensures ∙ ap Some c.in-Slice.is) (later first) in
    let less : weight_at c.args.arena.now c.in-Slice.offset.0 < weight_at c.args.arena.now c.args.node.0 = input.lighter in
    let start : 2 * weight_at c.args.arena.now c.args.node.0 ≡ t = c.decreases in
    let falls : 2 * weight_at c.args.arena.now c.in-Slice.offset.0 + 1 < t = omega arith in
    (falls, input.denoted)

pub raise_expr-raise_boxed-requires-in-Slice-3 : goal.raise_expr-raise_boxed-requires-in-Slice-3
raise_expr-raise_boxed-requires-in-Slice-3 t c =
    let (u, d) = c.requires in
    let input = has_input c.args.arena.now c.args.node.0 c.in-Slice.length.0 _ u d (c.get.ensures ∙ ap Some c.in-Slice.is) (later (later first)) in
    let less : weight_at c.args.arena.now c.in-Slice.length.0 < weight_at c.args.arena.now c.args.node.0 = input.lighter in
    let start : 2 * weight_at c.args.arena.now c.args.node.0 ≡ t = c.decreases in
    let falls : 2 * weight_at c.args.arena.now c.in-Slice.length.0 + 1 < t = omega arith in
    (falls, input.denoted)

pub raise_expr-raise_boxed-requires-in-Filter : goal.raise_expr-raise_boxed-requires-in-Filter
raise_expr-raise_boxed-requires-in-Filter t c =
    let (u, d) = c.requires in
    let input = has_input c.args.arena.now c.args.node.0 c.in-Filter.input.0 _ u d (c.get.ensures ∙ ap Some c.in-Filter.is) first in
    let less : weight_at c.args.arena.now c.in-Filter.input.0 < weight_at c.args.arena.now c.args.node.0 = input.lighter in
    let start : 2 * weight_at c.args.arena.now c.args.node.0 ≡ t = c.decreases in
    let falls : 2 * weight_at c.args.arena.now c.in-Filter.input.0 + 1 < t = omega arith in
    (falls, input.denoted)

pub raise_expr-raise_boxed-requires-in-Filter-2 : goal.raise_expr-raise_boxed-requires-in-Filter-2
raise_expr-raise_boxed-requires-in-Filter-2 t c =
    let (u, d) = c.requires in
    let input = has_input c.args.arena.now c.args.node.0 c.in-Filter.by.0 _ u d (c.get.ensures ∙ ap Some c.in-Filter.is) (later first) in
    let less : weight_at c.args.arena.now c.in-Filter.by.0 < weight_at c.args.arena.now c.args.node.0 = input.lighter in
    let start : 2 * weight_at c.args.arena.now c.args.node.0 ≡ t = c.decreases in
    let falls : 2 * weight_at c.args.arena.now c.in-Filter.by.0 + 1 < t = omega arith in
    (falls, input.denoted)

pub raise_expr-raise_boxed-requires-in-Ternary : goal.raise_expr-raise_boxed-requires-in-Ternary
raise_expr-raise_boxed-requires-in-Ternary t c =
    let (u, d) = c.requires in
    let input = has_input c.args.arena.now c.args.node.0 c.in-Ternary.predicate.0 _ u d (c.get.ensures ∙ ap Some c.in-Ternary.is) first in
    let less : weight_at c.args.arena.now c.in-Ternary.predicate.0 < weight_at c.args.arena.now c.args.node.0 = input.lighter in
    let start : 2 * weight_at c.args.arena.now c.args.node.0 ≡ t = c.decreases in
    let falls : 2 * weight_at c.args.arena.now c.in-Ternary.predicate.0 + 1 < t = omega arith in
    (falls, input.denoted)

pub raise_expr-raise_boxed-requires-in-Ternary-2 : goal.raise_expr-raise_boxed-requires-in-Ternary-2
raise_expr-raise_boxed-requires-in-Ternary-2 t c =
    let (u, d) = c.requires in
    let input = has_input c.args.arena.now c.args.node.0 c.in-Ternary.truthy.0 _ u d (c.get.ensures ∙ ap Some c.in-Ternary.is) (later first) in
    let less : weight_at c.args.arena.now c.in-Ternary.truthy.0 < weight_at c.args.arena.now c.args.node.0 = input.lighter in
    let start : 2 * weight_at c.args.arena.now c.args.node.0 ≡ t = c.decreases in
    let falls : 2 * weight_at c.args.arena.now c.in-Ternary.truthy.0 + 1 < t = omega arith in
    (falls, input.denoted)

pub raise_expr-raise_boxed-requires-in-Ternary-3 : goal.raise_expr-raise_boxed-requires-in-Ternary-3
raise_expr-raise_boxed-requires-in-Ternary-3 t c =
    let (u, d) = c.requires in
    let input = has_input c.args.arena.now c.args.node.0 c.in-Ternary.falsy.0 _ u d (c.get.ensures ∙ ap Some c.in-Ternary.is) (later (later first)) in
    let less : weight_at c.args.arena.now c.in-Ternary.falsy.0 < weight_at c.args.arena.now c.args.node.0 = input.lighter in
    let start : 2 * weight_at c.args.arena.now c.args.node.0 ≡ t = c.decreases in
    let falls : 2 * weight_at c.args.arena.now c.in-Ternary.falsy.0 + 1 < t = omega arith in
    (falls, input.denoted)

pub raise_expr-raise_boxed-requires-in-Agg : goal.raise_expr-raise_boxed-requires-in-Agg
raise_expr-raise_boxed-requires-in-Agg t c =
    let (u, d) = c.requires in
    let input = has_input c.args.arena.now c.args.node.0 c.input-in-Agg.result.0 _ u d (c.get.ensures ∙ ap Some c.in-Agg.is) (agg_is_in c.in-Agg.agg c.input-in-Agg.result.0 c.input-in-Agg.ensures) in
    let less : weight_at c.args.arena.now c.input-in-Agg.result.0 < weight_at c.args.arena.now c.args.node.0 = input.lighter in
    let start : 2 * weight_at c.args.arena.now c.args.node.0 ≡ t = c.decreases in
    let falls : 2 * weight_at c.args.arena.now c.input-in-Agg.result.0 + 1 < t = omega arith in
    (falls, input.denoted)

pub raise_expr-raise_exprs-requires : goal.raise_expr-raise_exprs-requires
raise_expr-raise_exprs-requires t c =
    let (u, d) = c.requires in
    let all = has_inputs c.args.arena.now c.args.node.0 _ u d (c.get.ensures ∙ ap Some c.in-Function.is) in
    let less : sum_of (λ n. weight_at c.args.arena.now n) (expr_places c.in-Function.input.entries) < weight_at c.args.arena.now c.args.node.0 = all.lighter in
    let start : 2 * weight_at c.args.arena.now c.args.node.0 ≡ t = c.decreases in
    let falls : 2 * sum_of (λ n. weight_at c.args.arena.now n) (expr_places c.in-Function.input.entries) + 1 < t = omega arith in
    (falls, (all.trees, all.denote))

pub raise_expr-raise_exprs-requires-in-AnonymousFunction : goal.raise_expr-raise_exprs-requires-in-AnonymousFunction
raise_expr-raise_exprs-requires-in-AnonymousFunction t c =
    let (u, d) = c.requires in
    let all = has_inputs c.args.arena.now c.args.node.0 _ u d (c.get.ensures ∙ ap Some c.in-AnonymousFunction.is) in
    let less : sum_of (λ n. weight_at c.args.arena.now n) (expr_places c.in-AnonymousFunction.input.entries) < weight_at c.args.arena.now c.args.node.0 = all.lighter in
    let start : 2 * weight_at c.args.arena.now c.args.node.0 ≡ t = c.decreases in
    let falls : 2 * sum_of (λ n. weight_at c.args.arena.now n) (expr_places c.in-AnonymousFunction.input.entries) + 1 < t = omega arith in
    (falls, (all.trees, all.denote))

pub raise_expr-returns-in_ok-input-in-Agg-clause-stands : goal.raise_expr-returns-in_ok-input-in-Agg-clause-stands
raise_expr-returns-in_ok-input-in-Agg-clause-stands t c =
    let stands = stands-Agg c.args.arena.now c.args.node.0 c.input-in-Agg.result.0 c.in-Agg.agg c.in_ok-input-in-Agg.input (c.get.ensures ∙ ap Some c.in-Agg.is) c.input-in-Agg.ensures c.in_ok-input-in-Agg.ensures.stands in
    subst (λ (z : AggExpr). StandsFor c.args.arena.now c.args.node.0 (expr.Agg z)) (sym c.agg_of.ensures) stands

pub raise_expr-returns-in_ok-input-in-Function-clause-stands : goal.raise_expr-returns-in_ok-input-in-Function-clause-stands
raise_expr-returns-in_ok-input-in-Function-clause-stands t c =
    let function = c.in_ok-function-in-Function in
    let at = c.get.ensures ∙ ap Some c.in-Function.is ∙ ap (λ f. Some (ir.Function c.in-Function.input f c.in-Function.options)) (sym function.ensures) in
    stands-Function c.args.arena.now c.args.node.0 c.in-Function.input c.in_ok-input-in-Function.input function.function c.in-Function.options at c.in_ok-input-in-Function.ensures.stands

pub raise_expr-returns-in_ok-input-in-AnonymousFunction-clause-stands : goal.raise_expr-returns-in_ok-input-in-AnonymousFunction-clause-stands
raise_expr-returns-in_ok-input-in-AnonymousFunction-clause-stands t c =
    stands-AnonymousFunction c.args.arena.now c.args.node.0 c.in-AnonymousFunction.input c.in_ok-input-in-AnonymousFunction.input c.in-AnonymousFunction.kernel c.in-AnonymousFunction.options
    (c.get.ensures ∙ ap Some c.in-AnonymousFunction.is) c.in_ok-input-in-AnonymousFunction.ensures.stands

pub raise_exprs-raise_expr-requires : goal.raise_exprs-raise_expr-requires
raise_exprs-raise_expr-requires t c =
    let (us, ds) = c.requires in
    let one = has_place c.args.arena.now c.as_slice-place-items.result.now c.args.places.now.entries us c.loop-place.place-index (record { 0 = record { 0 = 0 } }) c.as_slice-place-items.ensures c.loop-place-test.true ds in
    let less : weight_at c.args.arena.now (get_or c.as_slice-place-items.result.now c.loop-place.place-index (record { 0 = record { 0 = 0 } })).0.0 < sum_of (λ n. weight_at c.args.arena.now n) (expr_places c.args.places.now.entries) + 1 = one.no_heavier in
    let start : 2 * sum_of (λ n. weight_at c.args.arena.now n) (expr_places c.args.places.now.entries) + 1 ≡ t = c.decreases in
    let falls : 2 * weight_at c.args.arena.now (get_or c.as_slice-place-items.result.now c.loop-place.place-index (record { 0 = record { 0 = 0 } })).0.0 < t = omega arith in
    (falls, one.denoted)

pub raise_exprs-loop-place-preserved : goal.raise_exprs-loop-place-preserved
raise_exprs-loop-place-preserved t c =
    raised_more c.args.arena.now c.as_slice-place-items.result.now c.loop-place.exprs.entries c.try_push.new.self.entries c.loop-place.place-index (record { 0 = record { 0 = 0 } }) c.in_ok-expr.expr
    c.loop-place-test.true c.loop-place.invariant c.in_ok-expr.ensures.stands c.in_ok-try_push.ensures.ok
