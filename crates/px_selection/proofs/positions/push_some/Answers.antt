use Rattle.std.proofs.Common.{◌≡◌, arith}
use Rattle.px_selection.proofs.Words.{bit_more, bits_all}
use Rattle.px_selection.proofs.positions.push_some.Goals as goal

pub loop-i-preserved : goal.loop-i-preserved
loop-i-preserved c = bit_more _ _ _ c.args.word c.args.start c.loop-i.i c.loop-i.invariant c.in_ok-push_if.ensures

pub returns : goal.returns
returns c =
    let end : c.loop-i.i ≡ 64 = omega arith in
    bits_all _ _ c.args.word c.args.start c.loop-i.i end c.loop-i.invariant
