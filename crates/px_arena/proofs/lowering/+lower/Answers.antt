use Rattle.std.proofs.Common.{◌≡◌, ◌<◌, ◌+◌, ◌*◌, max, [], ◌∷◌, subst, List, arith}
use denote.Param.Weighed.{most}
use Rattle.px_expr.specs.declared.expr.Expr.{Expr, size-Expr}
use Rattle.px_arena.specs.Denotes.{expr_places}
use Rattle.px_arena.specs.Lowered.{AllStandFor}
use Rattle.px_expr.specs.declared.expr.Expr.TheVariants as expr
use Rattle.px_expr.specs.declared.expr.AggExpr.TheVariants as agg
use Rattle.px_arena.proofs.Stands.{stands_grown, stands-Alias, stands-Column, stands-Literal, stands-BinaryExpr, stands-Cast, stands-Gather, stands-Slice, stands-Filter, stands-Ternary, stands-Len, stands-Min, stands-Max, stands-First, stands-Last, stands-Sum, stands-Count, stands-Function, stands-AnonymousFunction}
use Rattle.px_arena.proofs.Lowers.{all_within, added_stands, lowerable_item, item_size, listed_more, listed_all, grown_more}
use Rattle.px_arena.proofs.lowering.+lower.Goals as goal

pub lower_agg-add-requires : goal.lower_agg-add-requires
lower_agg-add-requires t c =
    all_within c.lower_expr.new.arena _ (c.get.result.now ∷ []) (c.in_ok-input-in-Min.ensures.stands, tt)

pub lower_agg-returns-in_ok-input-in-Min-clause-stands : goal.lower_agg-returns-in_ok-input-in-Min-clause-stands
lower_agg-returns-in_ok-input-in-Min-clause-stands t c =
    let same : expr.Agg (agg.Min c.get.result.now) ≡ expr.Agg c.args.agg.now = (let a = c.in-Min.is in let b = c.get.ensures in cc) in
    added_stands c.lower_expr.new.arena c.add.new.self c.add.result _ _ (expr.Agg c.args.agg.now) (c.in_ok-input-in-Min.input.0 ∷ []) (c.get.result.now ∷ []) same c.add.ensures.kept c.add.ensures.holds (c.in_ok-input-in-Min.ensures.stands, tt)
    (λ n at all. stands-Min c.add.new.self n c.in_ok-input-in-Min.input c.get.result.now at all)

pub lower_agg-add-requires-in-Max : goal.lower_agg-add-requires-in-Max
lower_agg-add-requires-in-Max t c =
    all_within c.lower_expr-in-Max.new.arena _ (c.get-in-Max.result.now ∷ []) (c.in_ok-input-in-Max.ensures.stands, tt)

pub lower_agg-returns-in_ok-input-in-Max-clause-stands : goal.lower_agg-returns-in_ok-input-in-Max-clause-stands
lower_agg-returns-in_ok-input-in-Max-clause-stands t c =
    let same : expr.Agg (agg.Max c.get-in-Max.result.now) ≡ expr.Agg c.args.agg.now = (let a = c.in-Max.is in let b = c.get-in-Max.ensures in cc) in
    added_stands c.lower_expr-in-Max.new.arena c.add-in-Max.new.self c.add-in-Max.result _ _ (expr.Agg c.args.agg.now) (c.in_ok-input-in-Max.input.0 ∷ []) (c.get-in-Max.result.now ∷ []) same c.add-in-Max.ensures.kept c.add-in-Max.ensures.holds (c.in_ok-input-in-Max.ensures.stands, tt)
    (λ n at all. stands-Max c.add-in-Max.new.self n c.in_ok-input-in-Max.input c.get-in-Max.result.now at all)

pub lower_agg-add-requires-in-First : goal.lower_agg-add-requires-in-First
lower_agg-add-requires-in-First t c =
    all_within c.lower_expr-in-First.new.arena _ (c.get-in-First.result.now ∷ []) (c.in_ok-input-in-First.ensures.stands, tt)

pub lower_agg-returns-in_ok-input-in-First-clause-stands : goal.lower_agg-returns-in_ok-input-in-First-clause-stands
lower_agg-returns-in_ok-input-in-First-clause-stands t c =
    let same : expr.Agg (agg.First c.get-in-First.result.now) ≡ expr.Agg c.args.agg.now = (let a = c.in-First.is in let b = c.get-in-First.ensures in cc) in
    added_stands c.lower_expr-in-First.new.arena c.add-in-First.new.self c.add-in-First.result _ _ (expr.Agg c.args.agg.now) (c.in_ok-input-in-First.input.0 ∷ []) (c.get-in-First.result.now ∷ []) same c.add-in-First.ensures.kept c.add-in-First.ensures.holds (c.in_ok-input-in-First.ensures.stands, tt)
    (λ n at all. stands-First c.add-in-First.new.self n c.in_ok-input-in-First.input c.get-in-First.result.now at all)

pub lower_agg-add-requires-in-Last : goal.lower_agg-add-requires-in-Last
lower_agg-add-requires-in-Last t c =
    all_within c.lower_expr-in-Last.new.arena _ (c.get-in-Last.result.now ∷ []) (c.in_ok-input-in-Last.ensures.stands, tt)

pub lower_agg-returns-in_ok-input-in-Last-clause-stands : goal.lower_agg-returns-in_ok-input-in-Last-clause-stands
lower_agg-returns-in_ok-input-in-Last-clause-stands t c =
    let same : expr.Agg (agg.Last c.get-in-Last.result.now) ≡ expr.Agg c.args.agg.now = (let a = c.in-Last.is in let b = c.get-in-Last.ensures in cc) in
    added_stands c.lower_expr-in-Last.new.arena c.add-in-Last.new.self c.add-in-Last.result _ _ (expr.Agg c.args.agg.now) (c.in_ok-input-in-Last.input.0 ∷ []) (c.get-in-Last.result.now ∷ []) same c.add-in-Last.ensures.kept c.add-in-Last.ensures.holds (c.in_ok-input-in-Last.ensures.stands, tt)
    (λ n at all. stands-Last c.add-in-Last.new.self n c.in_ok-input-in-Last.input c.get-in-Last.result.now at all)

pub lower_agg-add-requires-in-Sum : goal.lower_agg-add-requires-in-Sum
lower_agg-add-requires-in-Sum t c =
    all_within c.lower_expr-in-Sum.new.arena _ (c.get-in-Sum.result.now ∷ []) (c.in_ok-input-in-Sum.ensures.stands, tt)

pub lower_agg-returns-in_ok-input-in-Sum-clause-stands : goal.lower_agg-returns-in_ok-input-in-Sum-clause-stands
lower_agg-returns-in_ok-input-in-Sum-clause-stands t c =
    let same : expr.Agg (agg.Sum c.get-in-Sum.result.now) ≡ expr.Agg c.args.agg.now = (let a = c.in-Sum.is in let b = c.get-in-Sum.ensures in cc) in
    added_stands c.lower_expr-in-Sum.new.arena c.add-in-Sum.new.self c.add-in-Sum.result _ _ (expr.Agg c.args.agg.now) (c.in_ok-input-in-Sum.input.0 ∷ []) (c.get-in-Sum.result.now ∷ []) same c.add-in-Sum.ensures.kept c.add-in-Sum.ensures.holds (c.in_ok-input-in-Sum.ensures.stands, tt)
    (λ n at all. stands-Sum c.add-in-Sum.new.self n c.in_ok-input-in-Sum.input c.get-in-Sum.result.now at all)

pub lower_agg-add-requires-in-Count : goal.lower_agg-add-requires-in-Count
lower_agg-add-requires-in-Count t c =
    all_within c.lower_expr-in-Count.new.arena _ (c.get-in-Count.result.now ∷ []) (c.in_ok-input-in-Count.ensures.stands, tt)

pub lower_agg-returns-in_ok-input-in-Count-clause-stands : goal.lower_agg-returns-in_ok-input-in-Count-clause-stands
lower_agg-returns-in_ok-input-in-Count-clause-stands t c =
    let same : expr.Agg (agg.Count c.get-in-Count.result.now c.in-Count.include_nulls) ≡ expr.Agg c.args.agg.now = (let a = c.in-Count.is in let b = c.get-in-Count.ensures in cc) in
    added_stands c.lower_expr-in-Count.new.arena c.add-in-Count.new.self c.add-in-Count.result _ _ (expr.Agg c.args.agg.now) (c.in_ok-input-in-Count.input.0 ∷ []) (c.get-in-Count.result.now ∷ []) same c.add-in-Count.ensures.kept c.add-in-Count.ensures.holds (c.in_ok-input-in-Count.ensures.stands, tt)
    (λ n at all. stands-Count c.add-in-Count.new.self n c.in_ok-input-in-Count.input c.get-in-Count.result.now c.in-Count.include_nulls at all)

pub lower_expr-add-requires : goal.lower_expr-add-requires
lower_expr-add-requires t c =
    all_within c.lower_expr.new.arena _ (c.get.result.now ∷ []) (c.in_ok-input-in-Alias.ensures.stands, tt)

pub lower_expr-returns-in_ok-input-in-Alias-clause-stands : goal.lower_expr-returns-in_ok-input-in-Alias-clause-stands
lower_expr-returns-in_ok-input-in-Alias-clause-stands t c =
    let same : expr.Alias c.get.result.now c.in_ok-name-in-Alias.name ≡ c.args.expr.now = (let e0 = c.in-Alias.is in let e1 = c.get.ensures in let e2 = c.in_ok-name-in-Alias.ensures in cc) in
    added_stands c.lower_expr.new.arena c.add.new.self c.add.result _ _ c.args.expr.now (c.in_ok-input-in-Alias.input.0 ∷ []) (c.get.result.now ∷ []) same c.add.ensures.kept c.add.ensures.holds (c.in_ok-input-in-Alias.ensures.stands, tt)
    (λ n at all. stands-Alias c.add.new.self n c.in_ok-input-in-Alias.input c.get.result.now c.in_ok-name-in-Alias.name at all)

pub lower_expr-returns-in_ok-name-in-Column-clause-stands : goal.lower_expr-returns-in_ok-name-in-Column-clause-stands
lower_expr-returns-in_ok-name-in-Column-clause-stands t c =
    let same : expr.Column c.in_ok-name-in-Column.name ≡ c.args.expr.now = (let e0 = c.in-Column.is in let e1 = c.in_ok-name-in-Column.ensures in cc) in
    added_stands c.args.arena.now c.add-in-Column.new.self c.add-in-Column.result _ _ c.args.expr.now ([]) ([]) same c.add-in-Column.ensures.kept c.add-in-Column.ensures.holds tt
    (λ n at all. stands-Column c.add-in-Column.new.self n c.in_ok-name-in-Column.name at all)

pub lower_expr-returns-in_ok-value-in-Literal-clause-stands : goal.lower_expr-returns-in_ok-value-in-Literal-clause-stands
lower_expr-returns-in_ok-value-in-Literal-clause-stands t c =
    let same : expr.Literal c.in_ok-value-in-Literal.value ≡ c.args.expr.now = (let e0 = c.in-Literal.is in let e1 = c.in_ok-value-in-Literal.ensures in cc) in
    added_stands c.args.arena.now c.add-in-Literal.new.self c.add-in-Literal.result _ _ c.args.expr.now ([]) ([]) same c.add-in-Literal.ensures.kept c.add-in-Literal.ensures.holds tt
    (λ n at all. stands-Literal c.add-in-Literal.new.self n c.in_ok-value-in-Literal.value at all)

pub lower_expr-add-requires-in-BinaryExpr : goal.lower_expr-add-requires-in-BinaryExpr
lower_expr-add-requires-in-BinaryExpr t c =
    all_within c.lower_two.new.arena _ (c.get-in-BinaryExpr.result.now ∷ c.get-in-BinaryExpr-2.result.now ∷ []) c.in_ok-left-in-BinaryExpr.ensures.stands

pub lower_expr-returns-in_ok-left-in-BinaryExpr-clause-stands : goal.lower_expr-returns-in_ok-left-in-BinaryExpr-clause-stands
lower_expr-returns-in_ok-left-in-BinaryExpr-clause-stands t c =
    let same : expr.BinaryExpr c.get-in-BinaryExpr.result.now c.in-BinaryExpr.op c.get-in-BinaryExpr-2.result.now ≡ c.args.expr.now = (let e0 = c.in-BinaryExpr.is in let e1 = c.get-in-BinaryExpr.ensures in let e2 = c.get-in-BinaryExpr-2.ensures in cc) in
    added_stands c.lower_two.new.arena c.add-in-BinaryExpr.new.self c.add-in-BinaryExpr.result _ _ c.args.expr.now (c.in_ok-left-in-BinaryExpr.left.0 ∷ c.in_ok-left-in-BinaryExpr.right.0 ∷ []) (c.get-in-BinaryExpr.result.now ∷ c.get-in-BinaryExpr-2.result.now ∷ []) same c.add-in-BinaryExpr.ensures.kept c.add-in-BinaryExpr.ensures.holds c.in_ok-left-in-BinaryExpr.ensures.stands
    (λ n at all. stands-BinaryExpr c.add-in-BinaryExpr.new.self n c.in_ok-left-in-BinaryExpr.left c.in_ok-left-in-BinaryExpr.right c.get-in-BinaryExpr.result.now c.get-in-BinaryExpr-2.result.now c.in-BinaryExpr.op at all)

pub lower_expr-add-requires-in-Cast : goal.lower_expr-add-requires-in-Cast
lower_expr-add-requires-in-Cast t c =
    all_within c.lower_expr-in-Cast.new.arena _ (c.get-in-Cast.result.now ∷ []) (c.in_ok-expr-in-Cast.ensures.stands, tt)

pub lower_expr-returns-in_ok-expr-in-Cast-clause-stands : goal.lower_expr-returns-in_ok-expr-in-Cast-clause-stands
lower_expr-returns-in_ok-expr-in-Cast-clause-stands t c =
    let same : expr.Cast c.get-in-Cast.result.now c.in_ok-dtype-in-Cast.dtype c.in-Cast.options ≡ c.args.expr.now = (let e0 = c.in-Cast.is in let e1 = c.get-in-Cast.ensures in let e2 = c.in_ok-dtype-in-Cast.ensures in cc) in
    added_stands c.lower_expr-in-Cast.new.arena c.add-in-Cast.new.self c.add-in-Cast.result _ _ c.args.expr.now (c.in_ok-expr-in-Cast.expr.0 ∷ []) (c.get-in-Cast.result.now ∷ []) same c.add-in-Cast.ensures.kept c.add-in-Cast.ensures.holds (c.in_ok-expr-in-Cast.ensures.stands, tt)
    (λ n at all. stands-Cast c.add-in-Cast.new.self n c.in_ok-expr-in-Cast.expr c.get-in-Cast.result.now c.in_ok-dtype-in-Cast.dtype c.in-Cast.options at all)

pub lower_expr-add-requires-in-Gather : goal.lower_expr-add-requires-in-Gather
lower_expr-add-requires-in-Gather t c =
    all_within c.lower_two-in-Gather.new.arena _ (c.get-in-Gather.result.now ∷ c.get-in-Gather-2.result.now ∷ []) c.in_ok-expr-in-Gather.ensures.stands

pub lower_expr-returns-in_ok-expr-in-Gather-clause-stands : goal.lower_expr-returns-in_ok-expr-in-Gather-clause-stands
lower_expr-returns-in_ok-expr-in-Gather-clause-stands t c =
    let same : expr.Gather c.get-in-Gather.result.now c.get-in-Gather-2.result.now c.in-Gather.returns_scalar ≡ c.args.expr.now = (let e0 = c.in-Gather.is in let e1 = c.get-in-Gather.ensures in let e2 = c.get-in-Gather-2.ensures in cc) in
    added_stands c.lower_two-in-Gather.new.arena c.add-in-Gather.new.self c.add-in-Gather.result _ _ c.args.expr.now (c.in_ok-expr-in-Gather.expr.0 ∷ c.in_ok-expr-in-Gather.idx.0 ∷ []) (c.get-in-Gather.result.now ∷ c.get-in-Gather-2.result.now ∷ []) same c.add-in-Gather.ensures.kept c.add-in-Gather.ensures.holds c.in_ok-expr-in-Gather.ensures.stands
    (λ n at all. stands-Gather c.add-in-Gather.new.self n c.in_ok-expr-in-Gather.expr c.in_ok-expr-in-Gather.idx c.get-in-Gather.result.now c.get-in-Gather-2.result.now c.in-Gather.returns_scalar at all)

pub lower_expr-add-requires-in-Slice : goal.lower_expr-add-requires-in-Slice
lower_expr-add-requires-in-Slice t c =
    all_within c.lower_three.new.arena _ (c.get-in-Slice.result.now ∷ c.get-in-Slice-2.result.now ∷ c.get-in-Slice-3.result.now ∷ []) c.in_ok-input-in-Slice.ensures.stands

pub lower_expr-returns-in_ok-input-in-Slice-clause-stands : goal.lower_expr-returns-in_ok-input-in-Slice-clause-stands
lower_expr-returns-in_ok-input-in-Slice-clause-stands t c =
    let same : expr.Slice c.get-in-Slice.result.now c.get-in-Slice-2.result.now c.get-in-Slice-3.result.now ≡ c.args.expr.now = (let e0 = c.in-Slice.is in let e1 = c.get-in-Slice.ensures in let e2 = c.get-in-Slice-2.ensures in let e3 = c.get-in-Slice-3.ensures in cc) in
    added_stands c.lower_three.new.arena c.add-in-Slice.new.self c.add-in-Slice.result _ _ c.args.expr.now (c.in_ok-input-in-Slice.input.0 ∷ c.in_ok-input-in-Slice.offset.0 ∷ c.in_ok-input-in-Slice.length.0 ∷ []) (c.get-in-Slice.result.now ∷ c.get-in-Slice-2.result.now ∷ c.get-in-Slice-3.result.now ∷ []) same c.add-in-Slice.ensures.kept c.add-in-Slice.ensures.holds c.in_ok-input-in-Slice.ensures.stands
    (λ n at all. stands-Slice c.add-in-Slice.new.self n c.in_ok-input-in-Slice.input c.in_ok-input-in-Slice.offset c.in_ok-input-in-Slice.length c.get-in-Slice.result.now c.get-in-Slice-2.result.now c.get-in-Slice-3.result.now at all)

pub lower_expr-add-requires-in-Filter : goal.lower_expr-add-requires-in-Filter
lower_expr-add-requires-in-Filter t c =
    all_within c.lower_two-in-Filter.new.arena _ (c.get-in-Filter.result.now ∷ c.get-in-Filter-2.result.now ∷ []) c.in_ok-input-in-Filter.ensures.stands

pub lower_expr-returns-in_ok-input-in-Filter-clause-stands : goal.lower_expr-returns-in_ok-input-in-Filter-clause-stands
lower_expr-returns-in_ok-input-in-Filter-clause-stands t c =
    let same : expr.Filter c.get-in-Filter.result.now c.get-in-Filter-2.result.now ≡ c.args.expr.now = (let e0 = c.in-Filter.is in let e1 = c.get-in-Filter.ensures in let e2 = c.get-in-Filter-2.ensures in cc) in
    added_stands c.lower_two-in-Filter.new.arena c.add-in-Filter.new.self c.add-in-Filter.result _ _ c.args.expr.now (c.in_ok-input-in-Filter.input.0 ∷ c.in_ok-input-in-Filter.by.0 ∷ []) (c.get-in-Filter.result.now ∷ c.get-in-Filter-2.result.now ∷ []) same c.add-in-Filter.ensures.kept c.add-in-Filter.ensures.holds c.in_ok-input-in-Filter.ensures.stands
    (λ n at all. stands-Filter c.add-in-Filter.new.self n c.in_ok-input-in-Filter.input c.in_ok-input-in-Filter.by c.get-in-Filter.result.now c.get-in-Filter-2.result.now at all)

pub lower_expr-add-requires-in-Ternary : goal.lower_expr-add-requires-in-Ternary
lower_expr-add-requires-in-Ternary t c =
    all_within c.lower_three-in-Ternary.new.arena _ (c.get-in-Ternary.result.now ∷ c.get-in-Ternary-2.result.now ∷ c.get-in-Ternary-3.result.now ∷ []) c.in_ok-predicate-in-Ternary.ensures.stands

pub lower_expr-returns-in_ok-predicate-in-Ternary-clause-stands : goal.lower_expr-returns-in_ok-predicate-in-Ternary-clause-stands
lower_expr-returns-in_ok-predicate-in-Ternary-clause-stands t c =
    let same : expr.Ternary c.get-in-Ternary.result.now c.get-in-Ternary-2.result.now c.get-in-Ternary-3.result.now ≡ c.args.expr.now = (let e0 = c.in-Ternary.is in let e1 = c.get-in-Ternary.ensures in let e2 = c.get-in-Ternary-2.ensures in let e3 = c.get-in-Ternary-3.ensures in cc) in
    added_stands c.lower_three-in-Ternary.new.arena c.add-in-Ternary.new.self c.add-in-Ternary.result _ _ c.args.expr.now (c.in_ok-predicate-in-Ternary.predicate.0 ∷ c.in_ok-predicate-in-Ternary.truthy.0 ∷ c.in_ok-predicate-in-Ternary.falsy.0 ∷ []) (c.get-in-Ternary.result.now ∷ c.get-in-Ternary-2.result.now ∷ c.get-in-Ternary-3.result.now ∷ []) same c.add-in-Ternary.ensures.kept c.add-in-Ternary.ensures.holds c.in_ok-predicate-in-Ternary.ensures.stands
    (λ n at all. stands-Ternary c.add-in-Ternary.new.self n c.in_ok-predicate-in-Ternary.predicate c.in_ok-predicate-in-Ternary.truthy c.in_ok-predicate-in-Ternary.falsy c.get-in-Ternary.result.now c.get-in-Ternary-2.result.now c.get-in-Ternary-3.result.now at all)

pub lower_expr-add-requires-in-Function : goal.lower_expr-add-requires-in-Function
lower_expr-add-requires-in-Function t c =
    all_within c.lower_exprs.new.arena _ c.in-Function.input.entries c.in_ok-input-in-Function.ensures.stands

pub lower_expr-returns-in_ok-input-in-Function-clause-stands : goal.lower_expr-returns-in_ok-input-in-Function-clause-stands
lower_expr-returns-in_ok-input-in-Function-clause-stands t c =
    let same : expr.Function c.in-Function.input c.in_ok-function-in-Function.function c.in-Function.options ≡ c.args.expr.now = (let e0 = c.in-Function.is in let e1 = c.in_ok-function-in-Function.ensures in cc) in
    added_stands c.lower_exprs.new.arena c.add-in-Function.new.self c.add-in-Function.result _ _ c.args.expr.now _ c.in-Function.input.entries same c.add-in-Function.ensures.kept c.add-in-Function.ensures.holds c.in_ok-input-in-Function.ensures.stands
    (λ n at all. stands-Function c.add-in-Function.new.self n c.in_ok-input-in-Function.input c.in-Function.input c.in_ok-function-in-Function.function c.in-Function.options at all)

pub lower_expr-add-requires-in-AnonymousFunction : goal.lower_expr-add-requires-in-AnonymousFunction
lower_expr-add-requires-in-AnonymousFunction t c =
    all_within c.lower_exprs-in-AnonymousFunction.new.arena _ c.in-AnonymousFunction.input.entries c.in_ok-input-in-AnonymousFunction.ensures.stands

pub lower_expr-returns-in_ok-input-in-AnonymousFunction-clause-stands : goal.lower_expr-returns-in_ok-input-in-AnonymousFunction-clause-stands
lower_expr-returns-in_ok-input-in-AnonymousFunction-clause-stands t c =
    let same : expr.AnonymousFunction c.in-AnonymousFunction.input c.in-AnonymousFunction.kernel c.in-AnonymousFunction.options ≡ c.args.expr.now = (let e0 = c.in-AnonymousFunction.is in cc) in
    added_stands c.lower_exprs-in-AnonymousFunction.new.arena c.add-in-AnonymousFunction.new.self c.add-in-AnonymousFunction.result _ _ c.args.expr.now _ c.in-AnonymousFunction.input.entries same c.add-in-AnonymousFunction.ensures.kept c.add-in-AnonymousFunction.ensures.holds c.in_ok-input-in-AnonymousFunction.ensures.stands
    (λ n at all. stands-AnonymousFunction c.add-in-AnonymousFunction.new.self n c.in_ok-input-in-AnonymousFunction.input c.in-AnonymousFunction.input c.in-AnonymousFunction.kernel c.in-AnonymousFunction.options at all)

pub lower_expr-returns-in-Len-clause-stands : goal.lower_expr-returns-in-Len-clause-stands
lower_expr-returns-in-Len-clause-stands t c =
    let same : expr.Len ≡ c.args.expr.now = (let e0 = c.in-Len.is in cc) in
    added_stands c.args.arena.now c.add-in-Len.new.self c.add-in-Len.result _ _ c.args.expr.now ([]) ([]) same c.add-in-Len.ensures.kept c.add-in-Len.ensures.holds tt
    (λ n at all. stands-Len c.add-in-Len.new.self n at all)

pub lower_two-returns-clause-stands : goal.lower_two-returns-clause-stands
lower_two-returns-clause-stands t c =
    (stands_grown _ _ _ _ c.lower_expr-2.ensures.kept c.in_ok-left.ensures.stands, (c.in_ok-right.ensures.stands, tt))

pub lower_three-returns-clause-stands : goal.lower_three-returns-clause-stands
lower_three-returns-clause-stands t c =
    (stands_grown _ _ _ _ c.lower_expr-3.ensures.kept (stands_grown _ _ _ _ c.lower_expr-2.ensures.kept c.in_ok-first.ensures.stands), (stands_grown _ _ _ _ c.lower_expr-3.ensures.kept c.in_ok-second.ensures.stands, (c.in_ok-third.ensures.stands, tt)))

pub lower_exprs-loop-expr-preserved : goal.lower_exprs-loop-expr-preserved
lower_exprs-loop-expr-preserved t c =
    let (grown, all) = c.loop-expr.invariant in (
      grown_more c.args.arena.now c.loop-expr.arena c.lower_expr.new.arena grown c.in_ok-place.ensures.kept,
      listed_more c.loop-expr.arena c.lower_expr.new.arena c.loop-expr.places.entries c.try_push.new.self.entries _ c.as_slice-expr-items.result.now c.loop-expr.expr-index c.expr-item.result c.expr-item.result
          c.loop-expr-test.true c.expr-item.is c.in_ok-place.ensures.kept all c.in_ok-place.ensures.stands c.in_ok-try_push.ensures.ok,
    )

pub lower_exprs-returns-clause-stands : goal.lower_exprs-returns-clause-stands
lower_exprs-returns-clause-stands t c =
    let (grown, all) = c.loop-expr.invariant in
    let listed = listed_all c.loop-expr.arena (expr_places c.loop-expr.places.entries) c.as_slice-expr-items.result.now c.loop-expr.expr-index c.loop-expr-test.false all in
    subst (λ (z : List Expr). AllStandFor c.loop-expr.arena (expr_places c.loop-expr.places.entries) z) c.as_slice-expr-items.ensures listed

pub lower_two-lower_expr-requires-2 : goal.lower_two-lower_expr-requires-2
lower_two-lower_expr-requires-2 t c =
    let start : 4 * max (size-Expr c.args.left.now) (size-Expr c.args.right.now) + 2 ≡ t = c.decreases in
    let falls : 4 * size-Expr c.args.right.now + 1 < t = omega arith in
    (falls, c.requires.right)

pub lower_three-lower_expr-requires-2 : goal.lower_three-lower_expr-requires-2
lower_three-lower_expr-requires-2 t c =
    let start : 4 * max (size-Expr c.args.first.now) (max (size-Expr c.args.second.now) (size-Expr c.args.third.now)) + 2 ≡ t = c.decreases in
    let falls : 4 * size-Expr c.args.second.now + 1 < t = omega arith in
    (falls, c.requires.second)

pub lower_three-lower_expr-requires-3 : goal.lower_three-lower_expr-requires-3
lower_three-lower_expr-requires-3 t c =
    let start : 4 * max (size-Expr c.args.first.now) (max (size-Expr c.args.second.now) (size-Expr c.args.third.now)) + 2 ≡ t = c.decreases in
    let falls : 4 * size-Expr c.args.third.now + 1 < t = omega arith in
    (falls, c.requires.third)

pub lower_exprs-lower_expr-requires : goal.lower_exprs-lower_expr-requires
lower_exprs-lower_expr-requires t c =
    let start : 4 * max (most size-Expr c.args.exprs.now.entries) 0 + 2 ≡ t = c.decreases in
    let size = item_size c.as_slice-expr-items.result.now c.args.exprs.now.entries c.loop-expr.expr-index c.expr-item.result c.as_slice-expr-items.ensures c.expr-item.is c.loop-expr-test.true in
    let falls : 4 * size-Expr c.expr-item.result + 1 < t = omega arith in
    (falls, lowerable_item c.as_slice-expr-items.result.now c.args.exprs.now.entries c.loop-expr.expr-index c.expr-item.result c.as_slice-expr-items.ensures c.expr-item.is c.loop-expr-test.true c.requires)
