use Rattle.std.proofs.Common.{◌∙◌, ap, arith, get_or, None}
use Rattle.px_horizontals.specs.Choices.{chosen}
use Rattle.px_horizontals.specs.Places.{place_in}
use Rattle.px_horizontals.proofs.Chosen.{joined_more, joined_short, joined_all}
use Rattle.px_horizontals.proofs.choices.chosen_strings.Goals as goal

pub loop-i-preserved : goal.loop-i-preserved
loop-i-preserved c =
    let b = c.args.b.now in
    let i = c.loop-i.i in
    joined_more (chosen c.args.choice) c.args.a.now b _ _ _ _ _ i (omega (arith, c.len-count.ensures.rows)) c.requires c.loop-i.invariant c.get.ensures
    (c.get-second.ensures ∙ ap (λ k. get_or b k None) (c.place_in.ensures.value ∙ ap (λ n. place_in n i) c.len-other.ensures.rows))
    c.chosen_string.ensures c.in_ok-push.ensures.ok

pub finish-requires : goal.finish-requires
finish-requires c =
    joined_short (chosen c.args.choice) c.args.a.now c.args.b.now c.loop-i.rows c.loop-i.i (omega (arith, c.len-count.ensures.rows))
    (omega (arith, c.len-count.ensures.rows, c.len-count.ensures.below_limit)) c.requires c.loop-i.invariant

pub returns : goal.returns
returns c =
    joined_all (chosen c.args.choice) c.args.a.now c.args.b.now c.loop-i.rows c.loop-i.i c.finish.result (omega (arith, c.len-count.ensures.rows)) c.requires c.loop-i.invariant c.finish.ensures
