use Rattle.std.proofs.Common.{◌∙◌, refl}
use Rattle.px_arrays.proofs.Lanes.{lanes_put, lanes_all}
use Rattle.px_arrays.proofs.bitmap.pack.Goals as goal

pub loop-i-init : goal.loop-i-init
loop-i-init c = refl

pub loop-i-preserved : goal.loop-i-preserved
loop-i-preserved c = lanes_put c.args.bits.now c.loop-i.bytes c.loop-i.i c.from.result c.loop-i-test.true c.requires c.loop-i.invariant c.from.ensures

pub returns : goal.returns
returns c = c.set_lanes.ensures ∙ lanes_all c.args.bits.now c.loop-i.bytes c.loop-i.i c.loop-i-test.false c.loop-i.invariant
