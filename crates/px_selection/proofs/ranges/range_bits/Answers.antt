use Rattle.std.proofs.Common.{◌≡◌, ◌∙◌, ◌<◌, arith, ap, length, List, Bool, false}
use Rattle.std.specs.Prelude.{slice_range}
use Rattle.std.proofs.lemmas.Result.{IfOk-weaker}
use Rattle.px_selection.proofs.Ranged.{range_start, range_more, length-range}
use Rattle.px_selection.proofs.ranges.range_bits.Goals as goal

pub loop-i-init : goal.loop-i-init
loop-i-init c = c.in_ok-flags.ensures.items ∙ range_start c.args.bits.now c.args.start

pub loop-i-preserved : goal.loop-i-preserved
loop-i-preserved c =
    range_more c.args.bits.now _ _ c.get.result false c.args.start c.loop-i.i (omega arith) (omega (arith, c.requires.inside)) c.loop-i.invariant c.get.ensures c.in_ok-push.ensures.items

pub from_bools-requires : goal.from_bools-requires
from_bools-requires c =
    let end : c.loop-i.i ≡ c.args.end = omega (arith, c.requires.order) in
    omega (
      arith,
      ap length (c.as_slice.ensures.value ∙ c.loop-i.invariant),
      length-range c.args.bits.now c.args.start c.loop-i.i (omega (arith, c.requires.order)) (omega (arith, c.requires.inside)),
      c.requires.inside,
      c.len.ensures.bits,
      c.len.ensures.below_limit,
    )

pub returns : goal.returns
returns c =
    let end : c.loop-i.i ≡ c.args.end = omega (arith, c.requires.order) in
    IfOk-weaker c.from_bools.result _ _
    (λ b e. e ∙ c.as_slice.ensures.value ∙ c.loop-i.invariant ∙ ap (λ j. slice_range c.args.bits.now c.args.start j) end)
    c.from_bools.ensures
