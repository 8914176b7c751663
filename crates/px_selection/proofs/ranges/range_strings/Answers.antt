use Rattle.std.proofs.Common.{◌≡◌, ◌∙◌, ◌<◌, arith, ap, length, None, subst}
use Rattle.std.specs.Prelude.{slice_range}
use Rattle.px_selection.proofs.Ranged.{range_start, range_more, length-range, gives_same}
use Rattle.px_selection.proofs.ranges.range_strings.Goals as goal

pub loop-i-init : goal.loop-i-init
loop-i-init c = c.in_ok-rows.ensures ∙ range_start c.args.a.now c.args.start

pub loop-i-preserved : goal.loop-i-preserved
loop-i-preserved c =
    range_more c.args.a.now _ _ _ None c.args.start c.loop-i.i (omega arith) (omega (arith, c.requires.inside)) c.loop-i.invariant c.get.ensures c.in_ok-push.ensures.ok

pub finish-requires : goal.finish-requires
finish-requires c =
    omega (
      arith,
      ap length c.loop-i.invariant,
      length-range c.args.a.now c.args.start c.loop-i.i (omega (arith, c.requires.order)) (omega (arith, c.requires.inside, c.requires.order)),
      c.requires.inside,
      c.len.ensures.rows,
      c.len.ensures.below_limit,
    )

pub returns : goal.returns
returns c =
    let end : c.loop-i.i ≡ c.args.end = omega (arith, c.requires.order) in
    gives_same c.finish.result _ _ (c.loop-i.invariant ∙ ap (λ j. slice_range c.args.a.now c.args.start j) end) c.finish.ensures
