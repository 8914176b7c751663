use Rattle.px_fields.proofs.ReshapeLemmas.{stops_at_zero, stops_past, stops_at_end}
use Rattle.px_fields.proofs.reshape.specified_product.Goals as goal

pub returns-then-size-eq0 : goal.returns-then-size-eq0
returns-then-size-eq0 c =
    stops_at_zero c.loop-dimension.product c.loop-dimension.dimension-index c.get_or_infer-size.result _ _ _ c.loop-dimension.invariant.0 c.loop-dimension-test.true c.get_or_infer-size.ensures c.if-size-eq0.true

pub returns-in_err-product : goal.returns-in_err-product
returns-in_err-product c =
    rw c.from_residual.ensures (stops_past c.loop-dimension.product c.loop-dimension.dimension-index c.get_or_infer-size.result _ _ _ c.loop-dimension.invariant.0 c.loop-dimension-test.true c.get_or_infer-size.ensures c.in_err-product.ensures)

pub returns : goal.returns
returns c =
    stops_at_end c.loop-dimension.product c.loop-dimension.dimension-index _ _ c.loop-dimension.invariant.0 c.loop-dimension-test.false c.loop-dimension.invariant.1 c.loop-dimension.invariant.2
