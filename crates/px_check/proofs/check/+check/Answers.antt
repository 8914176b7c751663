use Rattle.std.proofs.Common.{◌≡◌, ◌∙◌, sym, ap, subst, Result}
use Rattle.px_base.specs.Answer.{AnswersOrMemory}
use Rattle.px_base.specs.declared.error.PlanError.{PlanError}
use Rattle.px_expr.specs.declared.expr.Expr.{Expr}
use Rattle.px_expr.specs.declared.expr.Expr.TheVariants as expr
use Rattle.px_expr.specs.Plan.{catalog_of}
use Rattle.px_expr.specs.Tree.{tree_of}
use Rattle.px_expr.specs.declared.expr.AggExpr.TheVariants as agg
use Rattle.px_meaning.specs.Check as check
use Rattle.px_meaning.specs.Check.{found}
use Rattle.px_coercion.specs.Found.{seen}
use Rattle.px_check.proofs.Refused.{refused-Gather, refused-Slice, refused-Filter, agg_refused, parts-Min, parts-Max, parts-Median, parts-NUnique, parts-First, parts-Last, parts-Mean, parts-Implode, parts-Count, parts-Sum, parts-AggGroups, parts-Std, parts-Var, parts-Quantile}
use Rattle.px_check.proofs.check.+check.Goals as goal

pub check_found-returns-in-Gather-clause-answer : goal.check_found-returns-in-Gather-clause-answer
check_found-returns-in-Gather-clause-answer g t c =
    let cat = catalog_of c.args.schema.now (g.K.Kernels.definitions c.args.kernels.now) in
    let same : expr.Gather c.get-in-Gather.result.now c.get-in-Gather-2.result.now c.in-Gather.returns_scalar ≡ c.args.expr.now = (let e0 = c.in-Gather.is in let e1 = c.get-in-Gather.ensures in let e2 = c.get-in-Gather-2.ensures in cc) in
    let refused = ap (λ (e : Expr). found cat (tree_of e)) (sym same) ∙ refused-Gather cat c.get-in-Gather.result.now c.get-in-Gather-2.result.now c.in-Gather.returns_scalar in
    subst (λ (r : Result check.Found PlanError). AnswersOrMemory seen c.refuse_two.result r) (sym refused) c.refuse_two.ensures.answer

pub check_found-returns-in-Slice-clause-answer : goal.check_found-returns-in-Slice-clause-answer
check_found-returns-in-Slice-clause-answer g t c =
    let cat = catalog_of c.args.schema.now (g.K.Kernels.definitions c.args.kernels.now) in
    let same : expr.Slice c.get-in-Slice.result.now c.get-in-Slice-2.result.now c.get-in-Slice-3.result.now ≡ c.args.expr.now = (let e0 = c.in-Slice.is in let e1 = c.get-in-Slice.ensures in let e2 = c.get-in-Slice-2.ensures in let e3 = c.get-in-Slice-3.ensures in cc) in
    let refused = ap (λ (e : Expr). found cat (tree_of e)) (sym same) ∙ refused-Slice cat c.get-in-Slice.result.now c.get-in-Slice-2.result.now c.get-in-Slice-3.result.now in
    subst (λ (r : Result check.Found PlanError). AnswersOrMemory seen c.refuse_three.result r) (sym refused) c.refuse_three.ensures.answer

pub check_found-returns-in-Filter-clause-answer : goal.check_found-returns-in-Filter-clause-answer
check_found-returns-in-Filter-clause-answer g t c =
    let cat = catalog_of c.args.schema.now (g.K.Kernels.definitions c.args.kernels.now) in
    let same : expr.Filter c.get-in-Filter.result.now c.get-in-Filter-2.result.now ≡ c.args.expr.now = (let e0 = c.in-Filter.is in let e1 = c.get-in-Filter.ensures in let e2 = c.get-in-Filter-2.ensures in cc) in
    let refused = ap (λ (e : Expr). found cat (tree_of e)) (sym same) ∙ refused-Filter cat c.get-in-Filter.result.now c.get-in-Filter-2.result.now in
    subst (λ (r : Result check.Found PlanError). AnswersOrMemory seen c.refuse_two-in-Filter.result r) (sym refused) c.refuse_two-in-Filter.ensures.answer

pub refuse_agg-returns-in-Quantile-clause-answer : goal.refuse_agg-returns-in-Quantile-clause-answer
refuse_agg-returns-in-Quantile-clause-answer g t c =
    let same : agg.Quantile c.get.result.now c.get-in-Quantile.result.now c.in-Quantile.method ≡ c.args.agg.now = (let e0 = c.in-Quantile.is in let e1 = c.get.ensures in let e2 = c.get-in-Quantile.ensures in cc) in
    agg_refused (catalog_of c.args.schema.now (g.K.Kernels.definitions c.args.kernels.now)) _ _ _ _ _ (sym same) (parts-Quantile c.get.result.now c.get-in-Quantile.result.now c.in-Quantile.method) c.refuse_two.ensures.answer

pub refuse_agg-returns-in-Min-clause-answer : goal.refuse_agg-returns-in-Min-clause-answer
refuse_agg-returns-in-Min-clause-answer g t c =
    let same : agg.Min c.get-in-Min.result.now ≡ c.args.agg.now = (let e0 = c.in-Min.is in let e1 = c.get-in-Min.ensures in cc) in
    agg_refused (catalog_of c.args.schema.now (g.K.Kernels.definitions c.args.kernels.now)) _ _ _ _ _ (sym same) (parts-Min c.get-in-Min.result.now) c.refuse.ensures.answer

pub refuse_agg-returns-in-Max-clause-answer : goal.refuse_agg-returns-in-Max-clause-answer
refuse_agg-returns-in-Max-clause-answer g t c =
    let same : agg.Max c.get-in-Max.result.now ≡ c.args.agg.now = (let e0 = c.in-Max.is in let e1 = c.get-in-Max.ensures in cc) in
    agg_refused (catalog_of c.args.schema.now (g.K.Kernels.definitions c.args.kernels.now)) _ _ _ _ _ (sym same) (parts-Max c.get-in-Max.result.now) c.refuse-in-Max.ensures.answer

pub refuse_agg-returns-in-Median-clause-answer : goal.refuse_agg-returns-in-Median-clause-answer
refuse_agg-returns-in-Median-clause-answer g t c =
    let same : agg.Median c.get-in-Median.result.now ≡ c.args.agg.now = (let e0 = c.in-Median.is in let e1 = c.get-in-Median.ensures in cc) in
    agg_refused (catalog_of c.args.schema.now (g.K.Kernels.definitions c.args.kernels.now)) _ _ _ _ _ (sym same) (parts-Median c.get-in-Median.result.now) c.refuse-in-Median.ensures.answer

pub refuse_agg-returns-in-NUnique-clause-answer : goal.refuse_agg-returns-in-NUnique-clause-answer
refuse_agg-returns-in-NUnique-clause-answer g t c =
    let same : agg.NUnique c.get-in-NUnique.result.now ≡ c.args.agg.now = (let e0 = c.in-NUnique.is in let e1 = c.get-in-NUnique.ensures in cc) in
    agg_refused (catalog_of c.args.schema.now (g.K.Kernels.definitions c.args.kernels.now)) _ _ _ _ _ (sym same) (parts-NUnique c.get-in-NUnique.result.now) c.refuse-in-NUnique.ensures.answer

pub refuse_agg-returns-in-First-clause-answer : goal.refuse_agg-returns-in-First-clause-answer
refuse_agg-returns-in-First-clause-answer g t c =
    let same : agg.First c.get-in-First.result.now ≡ c.args.agg.now = (let e0 = c.in-First.is in let e1 = c.get-in-First.ensures in cc) in
    agg_refused (catalog_of c.args.schema.now (g.K.Kernels.definitions c.args.kernels.now)) _ _ _ _ _ (sym same) (parts-First c.get-in-First.result.now) c.refuse-in-First.ensures.answer

pub refuse_agg-returns-in-Last-clause-answer : goal.refuse_agg-returns-in-Last-clause-answer
refuse_agg-returns-in-Last-clause-answer g t c =
    let same : agg.Last c.get-in-Last.result.now ≡ c.args.agg.now = (let e0 = c.in-Last.is in let e1 = c.get-in-Last.ensures in cc) in
    agg_refused (catalog_of c.args.schema.now (g.K.Kernels.definitions c.args.kernels.now)) _ _ _ _ _ (sym same) (parts-Last c.get-in-Last.result.now) c.refuse-in-Last.ensures.answer

pub refuse_agg-returns-in-Mean-clause-answer : goal.refuse_agg-returns-in-Mean-clause-answer
refuse_agg-returns-in-Mean-clause-answer g t c =
    let same : agg.Mean c.get-in-Mean.result.now ≡ c.args.agg.now = (let e0 = c.in-Mean.is in let e1 = c.get-in-Mean.ensures in cc) in
    agg_refused (catalog_of c.args.schema.now (g.K.Kernels.definitions c.args.kernels.now)) _ _ _ _ _ (sym same) (parts-Mean c.get-in-Mean.result.now) c.refuse-in-Mean.ensures.answer

pub refuse_agg-returns-in-Implode-clause-answer : goal.refuse_agg-returns-in-Implode-clause-answer
refuse_agg-returns-in-Implode-clause-answer g t c =
    let same : agg.Implode c.get-in-Implode.result.now ≡ c.args.agg.now = (let e0 = c.in-Implode.is in let e1 = c.get-in-Implode.ensures in cc) in
    agg_refused (catalog_of c.args.schema.now (g.K.Kernels.definitions c.args.kernels.now)) _ _ _ _ _ (sym same) (parts-Implode c.get-in-Implode.result.now) c.refuse-in-Implode.ensures.answer

pub refuse_agg-returns-in-Sum-clause-answer : goal.refuse_agg-returns-in-Sum-clause-answer
refuse_agg-returns-in-Sum-clause-answer g t c =
    let same : agg.Sum c.get-in-Sum.result.now ≡ c.args.agg.now = (let e0 = c.in-Sum.is in let e1 = c.get-in-Sum.ensures in cc) in
    agg_refused (catalog_of c.args.schema.now (g.K.Kernels.definitions c.args.kernels.now)) _ _ _ _ _ (sym same) (parts-Sum c.get-in-Sum.result.now) c.refuse-in-Sum.ensures.answer

pub refuse_agg-returns-in-AggGroups-clause-answer : goal.refuse_agg-returns-in-AggGroups-clause-answer
refuse_agg-returns-in-AggGroups-clause-answer g t c =
    let same : agg.AggGroups c.get-in-AggGroups.result.now ≡ c.args.agg.now = (let e0 = c.in-AggGroups.is in let e1 = c.get-in-AggGroups.ensures in cc) in
    agg_refused (catalog_of c.args.schema.now (g.K.Kernels.definitions c.args.kernels.now)) _ _ _ _ _ (sym same) (parts-AggGroups c.get-in-AggGroups.result.now) c.refuse-in-AggGroups.ensures.answer

pub refuse_agg-returns-in-Count-clause-answer : goal.refuse_agg-returns-in-Count-clause-answer
refuse_agg-returns-in-Count-clause-answer g t c =
    let same : agg.Count c.get-in-Count.result.now c.in-Count.field-1 ≡ c.args.agg.now = (let e0 = c.in-Count.is in let e1 = c.get-in-Count.ensures in cc) in
    agg_refused (catalog_of c.args.schema.now (g.K.Kernels.definitions c.args.kernels.now)) _ _ _ _ _ (sym same) (parts-Count c.get-in-Count.result.now c.in-Count.field-1) c.refuse-in-Count.ensures.answer

pub refuse_agg-returns-in-Std-clause-answer : goal.refuse_agg-returns-in-Std-clause-answer
refuse_agg-returns-in-Std-clause-answer g t c =
    let same : agg.Std c.get-in-Std.result.now c.in-Std.field-1 ≡ c.args.agg.now = (let e0 = c.in-Std.is in let e1 = c.get-in-Std.ensures in cc) in
    agg_refused (catalog_of c.args.schema.now (g.K.Kernels.definitions c.args.kernels.now)) _ _ _ _ _ (sym same) (parts-Std c.get-in-Std.result.now c.in-Std.field-1) c.refuse-in-Std.ensures.answer

pub refuse_agg-returns-in-Var-clause-answer : goal.refuse_agg-returns-in-Var-clause-answer
refuse_agg-returns-in-Var-clause-answer g t c =
    let same : agg.Var c.get-in-Var.result.now c.in-Var.field-1 ≡ c.args.agg.now = (let e0 = c.in-Var.is in let e1 = c.get-in-Var.ensures in cc) in
    agg_refused (catalog_of c.args.schema.now (g.K.Kernels.definitions c.args.kernels.now)) _ _ _ _ _ (sym same) (parts-Var c.get-in-Var.result.now c.in-Var.field-1) c.refuse-in-Var.ensures.answer
