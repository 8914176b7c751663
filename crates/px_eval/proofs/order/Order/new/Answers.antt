use Rattle.std.proofs.Common.{◌≡◌, ◌≤◌, ◌∙◌, ℕ, ap, arith, replicate, None}
use Rattle.px_eval.proofs.order.Order.new.Goals as goal

pub returns-clause-needed : goal.returns-clause-needed
returns-clause-needed c =
    let far : c.loop-i._i ≤ c.args.len = c.loop-i.auto._i-end in
    let near : c.args.len ≤ c.loop-i._i = c.loop-i-test.false in
    let e : c.loop-i._i ≡ c.args.len = omega arith in
    c.loop-i.invariant ∙ ap (λ (z : ℕ). replicate z None) e
