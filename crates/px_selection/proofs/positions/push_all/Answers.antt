use Rattle.px_selection.proofs.Words.{position_more}
use Rattle.px_selection.proofs.positions.push_all.Goals as goal

pub loop-i-preserved : goal.loop-i-preserved
loop-i-preserved c = position_more _ _ _ c.args.start c.loop-i.i c.loop-i.invariant c.in_ok-push.ensures.items
