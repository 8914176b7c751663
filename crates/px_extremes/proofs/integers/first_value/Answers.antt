use Rattle.std.proofs.Common.{◌≡◌, ◌∙◌, ◌<◌, sym, ap, arith, below_more, is_some, length}
use Rattle.px_extremes.proofs.Positions.{first_found, first_none}
use Rattle.px_extremes.proofs.integers.first_value.Goals as goal

pub loop-i-preserved : goal.loop-i-preserved
loop-i-preserved g c = below_more _ _ c.loop-i.invariant (sym (rw c.in_default.is at c.get.ensures))

pub returns-in-Some : goal.returns-in-Some
returns-in-Some g c =
    let rows = c.args.rows.now in
    let here = rw c.in-Some.is at c.get.ensures in
    let below : c.loop-i.i < length rows = omega (arith, c.len-i-end.ensures.rows) in
    here ∙ first_found rows c.loop-i.i below c.loop-i.invariant (ap is_some (sym here))

pub returns : goal.returns
returns g c = first_none c.args.rows.now (λ k h. c.loop-i.invariant k (omega (arith, c.len-i-end.ensures.rows)))
