use Rattle.std.proofs.Common.{◌≤◌, ◌∙◌, ℕ, Some, set, get_or, length, ap, refl, arith}
use Rattle.px_rules.specs.Plan.{places}
use Rattle.px_eval.proofs.Lists.{some_within, at_in, in_roots, length_places}
use Rattle.px_eval.proofs.Ordering.{raising_start, raising_more, raising_end, raised_stays}
use Rattle.px_eval.proofs.order.need_roots.Goals as goal

pub loop-i-init : goal.loop-i-init
loop-i-init c = record { kept = refl; raising = raising_start (length c.args.order.now.places.items) (places c.args.roots.now) c.args.order.now.needed.items }

pub need-requires : goal.need-requires
need-requires c =
    let at = in_roots c.args.roots.now c.loop-i.i (record { 0 = 0 }) c.loop-i-test.true in
    let n = (get_or c.args.roots.now c.loop-i.i (record { 0 = 0 })).0 in
    some_within c.loop-i.order.needed.items n
    (raised_stays (length c.args.order.now.places.items) (places c.args.roots.now) c.args.order.now.needed.items c.loop-i.order.needed.items c.loop-i.invariant.raising.raised n (c.requires n (at_in (places c.args.roots.now) c.loop-i.i n at)))

pub loop-i-preserved : goal.loop-i-preserved
loop-i-preserved c =
    let at = in_roots c.args.roots.now c.loop-i.i (record { 0 = 0 }) c.loop-i-test.true in
    let n = (get_or c.args.roots.now c.loop-i.i (record { 0 = 0 })).0 in
    record {
      kept = c.need.ensures.places ∙ c.loop-i.invariant.kept;
      raising = raising_more (length c.args.order.now.places.items) (places c.args.roots.now) c.loop-i.i n c.args.order.now.needed.items c.loop-i.order.needed.items c.need.new.self.needed.items
          at (c.requires n (at_in (places c.args.roots.now) c.loop-i.i n at))
          (c.need.ensures.needed ∙ ap (λ (z : ℕ). set c.loop-i.order.needed.items n (Some z)) (ap length c.loop-i.invariant.kept)) c.loop-i.invariant.raising;
    }

pub returns-clause-places : goal.returns-clause-places
returns-clause-places c = c.loop-i.invariant.kept

pub returns-clause-raised : goal.returns-clause-raised
returns-clause-raised c = c.loop-i.invariant.raising.raised

pub returns-clause-roots : goal.returns-clause-roots
returns-clause-roots c =
    raising_end (length c.args.order.now.places.items) (places c.args.roots.now) c.loop-i.i c.args.order.now.needed.items c.loop-i.order.needed.items
    (let e : length c.args.roots.now ≤ c.loop-i.i = c.loop-i-test.false in let l = length_places c.args.roots.now in omega arith) c.loop-i.invariant.raising
