use Rattle.std.proofs.Common.{◌≡◌, ◌⊎◌, ◌≤◌, List, get_or, length, ap, sym, subst, arith}
use Rattle.px_arena.specs.declared.node.Node.{Node}
use Rattle.px_rules.specs.Plan.{places}
use Rattle.px_arena.specs.Denotes.{IsIn}
use Rattle.px_eval.specs.Order.{IsOrder, IsReader}
use Rattle.px_eval.proofs.Lists.{at_in, in_roots, length_places}
use Rattle.px_eval.proofs.Ordering.{rooting_start, rooting_more, roots_placed, raised_order, raised_was, last_reads}
use Rattle.px_eval.proofs.order.order_of.Goals as goal

pub loop-i-init : goal.loop-i-init
loop-i-init c =
    rooting_start c.args.arena.now (places c.args.roots.now) c.len.result (places c.in_ok-order.order.places.items) c.in_ok-order.order.needed.items c.len.ensures (ap places c.in_ok-order.ensures.places) c.in_ok-order.ensures.needed

pub visit-requires-clause-denotes : goal.visit-requires-clause-denotes
visit-requires-clause-denotes c =
    let at = in_roots c.args.roots.now c.loop-i.i (record { 0 = 0 }) c.loop-i-test.true in
    let n = (get_or c.args.roots.now c.loop-i.i (record { 0 = 0 })).0 in
    c.requires n (at_in (places c.args.roots.now) c.loop-i.i n at)

pub visit-requires-clause-order : goal.visit-requires-clause-order
visit-requires-clause-order c = c.loop-i.invariant.order

pub visit-requires-clause-read : goal.visit-requires-clause-read
visit-requires-clause-read c = c.loop-i.invariant.read

pub loop-i-preserved : goal.loop-i-preserved
loop-i-preserved c =
    let at = in_roots c.args.roots.now c.loop-i.i (record { 0 = 0 }) c.loop-i-test.true in
    let n = (get_or c.args.roots.now c.loop-i.i (record { 0 = 0 })).0 in
    rooting_more c.args.arena.now (places c.args.roots.now) c.loop-i.i n (places c.loop-i.order.places.items) (places c.visit.new.order.places.items) c.loop-i.order.needed.items c.visit.new.order.needed.items
    at c.loop-i.invariant c.in_ok-visit.ensures.order c.in_ok-visit.ensures.read c.in_ok-visit.ensures.kept c.in_ok-visit.ensures.reached c.in_ok-visit.ensures.placed

pub need_roots-requires : goal.need_roots-requires
need_roots-requires c =
    roots_placed c.args.arena.now (places c.args.roots.now) c.loop-i.i (places c.loop-i.order.places.items) c.loop-i.order.needed.items
    (let e : length c.args.roots.now ≤ c.loop-i.i = c.loop-i-test.false in let l = length_places c.args.roots.now in omega arith) c.loop-i.invariant

pub returns-clause-order : goal.returns-clause-order
returns-clause-order c =
    subst (λ (z : List Node). IsOrder c.args.arena.now (places z) c.need_roots.new.order.needed.items) (sym c.need_roots.ensures.places)
    (raised_order c.args.arena.now (places c.loop-i.order.places.items) (length c.loop-i.order.places.items) (places c.args.roots.now) c.loop-i.order.needed.items c.need_roots.new.order.needed.items
    (sym (length_places c.loop-i.order.places.items)) c.loop-i.invariant.order c.need_roots.ensures.raised)

pub returns-clause-reached : goal.returns-clause-reached
returns-clause-reached c =
    λ p h. c.loop-i.invariant.reached p (raised_was (length c.loop-i.order.places.items) (places c.args.roots.now) c.loop-i.order.needed.items c.need_roots.new.order.needed.items p c.need_roots.ensures.raised h)

pub returns-clause-roots : goal.returns-clause-roots
returns-clause-roots c =
    λ n i.
    let l : length (places c.need_roots.new.order.places.items) ≡ length c.need_roots.new.order.places.items = length_places c.need_roots.new.order.places.items in
    let s : length c.need_roots.new.order.places.items ≡ length c.loop-i.order.places.items = ap length c.need_roots.ensures.places in
    (length c.loop-i.order.places.items, c.need_roots.ensures.roots n i, omega arith)

pub returns-clause-read : goal.returns-clause-read
returns-clause-read c =
    λ m last e.
    subst (λ (z : List Node). IsIn m (places c.args.roots.now) ⊎ IsReader c.args.arena.now (places z) last m) (sym c.need_roots.ensures.places)
    (last_reads c.args.arena.now (places c.args.roots.now) (places c.loop-i.order.places.items) (length c.loop-i.order.places.items) c.loop-i.order.needed.items c.need_roots.new.order.needed.items
    (sym (length_places c.loop-i.order.places.items)) c.loop-i.invariant.order c.loop-i.invariant.read c.need_roots.ensures.raised c.loop-i.invariant.reached
    (roots_placed c.args.arena.now (places c.args.roots.now) c.loop-i.i (places c.loop-i.order.places.items) c.loop-i.order.needed.items (let e : length c.args.roots.now ≤ c.loop-i.i = c.loop-i-test.false in let l = length_places c.args.roots.now in omega arith) c.loop-i.invariant) m last e)
