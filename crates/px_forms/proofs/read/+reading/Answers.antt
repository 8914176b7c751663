use Rattle.std.proofs.Common.{arith}
use Rattle.px_forms.proofs.Forms.{aliased-not_two, binary-not_three, cast-not_three, ternary-not_three, depth_of_item, none_read, exprs_step}
use Rattle.px_forms.proofs.read.+reading.Goals as goal

pub aliased-returns-in_default : goal.aliased-returns-in_default
aliased-returns-in_default t c = aliased-not_two _ c.in_default.ensures.none

pub binary-returns-in_default : goal.binary-returns-in_default
binary-returns-in_default t c = binary-not_three _ c.in_default.ensures.none

pub cast-returns-in_default : goal.cast-returns-in_default
cast-returns-in_default t c = cast-not_three _ c.in_default.ensures.none

pub ternary-returns-in_default : goal.ternary-returns-in_default
ternary-returns-in_default t c = ternary-not_three _ c.in_default.ensures.none

pub exprs_in-expr_in-requires : goal.exprs_in-expr_in-requires
exprs_in-expr_in-requires t c = (omega (arith, depth_of_item c.args.values.now c.loop-value.value-index c.value-item.result c.loop-value-test.true c.value-item.is), tt)

pub exprs_in-loop-value-preserved : goal.exprs_in-loop-value-preserved
exprs_in-loop-value-preserved t c =
    let reads = rw c.in-Some.is at c.in_ok-expr.ensures in
    exprs_step c.args.values.now c.loop-value.value-index c.value-item.result c.loop-value.exprs.entries c.in-Some.expr _ c.loop-value-test.true c.value-item.is reads c.in_ok-try_push.ensures.ok c.loop-value.invariant

pub exprs_in-loop-value-init : goal.exprs_in-loop-value-init
exprs_in-loop-value-init t c = none_read c.args.values.now c.new-exprs.result.entries c.new-exprs.ensures
