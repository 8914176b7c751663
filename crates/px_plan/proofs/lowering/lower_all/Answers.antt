use Rattle.px_arena.proofs.Lowers.{grown_more}
use Rattle.px_rules.specs.Plan.{places}
use Rattle.px_plan.proofs.Optimizes.{denote_more, denote_listed}
use Rattle.px_plan.proofs.lowering.lower_all.Goals as goal

pub loop-one-preserved : goal.loop-one-preserved
loop-one-preserved c =
    let (grown, all) = c.loop-one.invariant in (
      grown_more c.args.arena.now c.loop-one.arena c.lower.new.arena grown c.in_ok-root.ensures.kept,
      denote_more c.loop-one.arena c.lower.new.arena c.loop-one.roots.entries c.try_push.new.self.entries c.in_ok-root.root c.args.checked.now
          c.loop-one.one-index c.one-item.result c.one-item.result
          c.loop-one-test.true c.one-item.is c.in_ok-root.ensures.kept all c.in_ok-root.ensures.denotes c.in_ok-try_push.ensures.ok,
    )

pub returns-clause-denote : goal.returns-clause-denote
returns-clause-denote c =
    let (grown, all) = c.loop-one.invariant in
    denote_listed c.loop-one.arena (places c.loop-one.roots.entries) c.args.checked.now c.loop-one.one-index c.loop-one-test.false all
