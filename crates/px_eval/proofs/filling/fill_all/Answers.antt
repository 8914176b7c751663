use Rattle.std.proofs.Common.{◌≡◌, ◌<◌, ◌≤◌, ◌∙◌, length, Some, ap, sym, arith}
use Rattle.std.proofs.lemmas.List.{length-set}
use Rattle.px_rules.specs.Plan.{places}
use Rattle.px_eval.specs.Table.{values_of}
use Rattle.px_eval.proofs.Lists.{is_some_of, length_places}
use Rattle.px_eval.proofs.Fills.{Ordered, filled_start, filled_more, filled_ticks, no_ticks, position_within, position_ready, position_error, roots_kept, roots_alone}
use Rattle.px_eval.proofs.filling.fill_all.Goals as goal

pub order_of-requires : goal.order_of-requires
order_of-requires g c = λ n i. let (t, d, k) = c.requires.checked n i in (t, d)

pub loop-position-init : goal.loop-position-init
loop-position-init g c =
    filled_start (g.K.Kernels.definitions c.args.kernels.now) c.args.frame.now c.args.arena.now (places c.in-Ok.order.places.items) c.in-Ok.order.needed.items c.in-Ok-new.table c.len.result c.args.steps.now c.len.ensures c.in-Ok-new.ensures.ok

pub get-expr-requires : goal.get-expr-requires
get-expr-requires g c =
    let ps = places c.in-Ok.order.places.items in
    let o : Ordered (g.K.Kernels.definitions c.args.kernels.now) c.args.frame.now c.args.arena.now (places c.args.roots.now) ps c.in-Ok.order.needed.items =
    record { fits = c.requires.fits; checked = c.requires.checked; order = c.in-Ok.ensures.order; reached = c.in-Ok.ensures.reached; roots = c.in-Ok.ensures.roots; read = c.in-Ok.ensures.read } in
    position_within (g.K.Kernels.definitions c.args.kernels.now) c.args.frame.now c.args.arena.now (places c.args.roots.now) ps c.in-Ok.order.needed.items o c.loop-position.position c.at-node.result.0 c.at-node.ensures

pub own_rows-requires-clause-ready : goal.own_rows-requires-clause-ready
own_rows-requires-clause-ready g c =
    let ps = places c.in-Ok.order.places.items in
    let o : Ordered (g.K.Kernels.definitions c.args.kernels.now) c.args.frame.now c.args.arena.now (places c.args.roots.now) ps c.in-Ok.order.needed.items =
    record { fits = c.requires.fits; checked = c.requires.checked; order = c.in-Ok.ensures.order; reached = c.in-Ok.ensures.reached; roots = c.in-Ok.ensures.roots; read = c.in-Ok.ensures.read } in
    (position_ready (g.K.Kernels.definitions c.args.kernels.now) c.args.frame.now c.args.arena.now (places c.args.roots.now) ps c.in-Ok.order.needed.items o c.loop-position.position c.at-node.result.0 c.get-expr.result.now c.loop-position.table c.args.steps.now c.loop-position.steps c.at-node.ensures c.get-expr.ensures c.loop-position.invariant).ready

pub put-requires : goal.put-requires
put-requires g c =
    let ps = places c.in-Ok.order.places.items in
    let o : Ordered (g.K.Kernels.definitions c.args.kernels.now) c.args.frame.now c.args.arena.now (places c.args.roots.now) ps c.in-Ok.order.needed.items =
    record { fits = c.requires.fits; checked = c.requires.checked; order = c.in-Ok.ensures.order; reached = c.in-Ok.ensures.reached; roots = c.in-Ok.ensures.roots; read = c.in-Ok.ensures.read } in
    let within = position_within (g.K.Kernels.definitions c.args.kernels.now) c.args.frame.now c.args.arena.now (places c.args.roots.now) ps c.in-Ok.order.needed.items o c.loop-position.position c.at-node.result.0 c.at-node.ensures in
    let same_length : length c.loop-position.table ≡ length c.args.arena.now = c.loop-position.invariant.table.same_length in
    omega arith

pub returns-in-Err-own_rows-clause-err : goal.returns-in-Err-own_rows-clause-err
returns-in-Err-own_rows-clause-err g c =
    let ps = places c.in-Ok.order.places.items in
    let o : Ordered (g.K.Kernels.definitions c.args.kernels.now) c.args.frame.now c.args.arena.now (places c.args.roots.now) ps c.in-Ok.order.needed.items =
    record { fits = c.requires.fits; checked = c.requires.checked; order = c.in-Ok.ensures.order; reached = c.in-Ok.ensures.reached; roots = c.in-Ok.ensures.roots; read = c.in-Ok.ensures.read } in
    position_error (g.K.Kernels.definitions c.args.kernels.now) c.args.frame.now c.args.arena.now (places c.args.roots.now) ps c.in-Ok.order.needed.items o c.loop-position.position c.at-node.result.0 c.get-expr.result.now c.loop-position.table c.args.steps.now c.loop-position.steps c.in-Err-own_rows.e c.at-node.ensures c.get-expr.ensures c.loop-position.invariant c.in-Err-own_rows.ensures.err

pub returns-in-Err-own_rows-clause-ticks : goal.returns-in-Err-own_rows-clause-ticks
returns-in-Err-own_rows-clause-ticks g c =
    let ps = places c.in-Ok.order.places.items in
    let o : Ordered (g.K.Kernels.definitions c.args.kernels.now) c.args.frame.now c.args.arena.now (places c.args.roots.now) ps c.in-Ok.order.needed.items =
    record { fits = c.requires.fits; checked = c.requires.checked; order = c.in-Ok.ensures.order; reached = c.in-Ok.ensures.reached; roots = c.in-Ok.ensures.roots; read = c.in-Ok.ensures.read } in
    let l = length_places c.in-Ok.order.places.items in
    let h : c.loop-position.position < c.len-position-end.result = c.loop-position-test.true in
    let e : c.len-position-end.result ≡ length c.in-Ok.order.places.items = c.len-position-end.ensures in
    filled_ticks (g.K.Kernels.definitions c.args.kernels.now) c.args.frame.now c.args.arena.now (places c.args.roots.now) ps c.in-Ok.order.needed.items o c.loop-position.position c.loop-position.table c.args.steps.now c.loop-position.steps (omega arith) c.loop-position.invariant

pub drop_inputs-requires-clause-inputs : goal.drop_inputs-requires-clause-inputs
drop_inputs-requires-clause-inputs g c =
    λ m i.
    let (w, (last, e, le)) = c.in-Ok.ensures.order.inputs c.loop-position.position c.at-node.result.0 m c.get-expr.result.now c.at-node.ensures c.get-expr.ensures i in
    is_some_of _ last e

pub drop_inputs-requires-clause-same_length : goal.drop_inputs-requires-clause-same_length
drop_inputs-requires-clause-same_length g c =
    ap length c.put.ensures ∙ (length-set c.loop-position.table c.at-node.result.0 (Some (values_of c.in-Ok-own_rows.rows)) ∙ (c.loop-position.invariant.table.same_length ∙ sym c.in-Ok.ensures.order.same_length))

pub loop-position-preserved : goal.loop-position-preserved
loop-position-preserved g c =
    let ps = places c.in-Ok.order.places.items in
    let o : Ordered (g.K.Kernels.definitions c.args.kernels.now) c.args.frame.now c.args.arena.now (places c.args.roots.now) ps c.in-Ok.order.needed.items =
    record { fits = c.requires.fits; checked = c.requires.checked; order = c.in-Ok.ensures.order; reached = c.in-Ok.ensures.reached; roots = c.in-Ok.ensures.roots; read = c.in-Ok.ensures.read } in
    filled_more (g.K.Kernels.definitions c.args.kernels.now) c.args.frame.now c.args.arena.now (places c.args.roots.now) ps c.in-Ok.order.needed.items o c.loop-position.position c.at-node.result.0 c.get-expr.result.now c.loop-position.table c.put.new.self c.drop_inputs.new.table c.in-Ok-own_rows.rows c.args.steps.now c.loop-position.steps c.tick.new.self
    c.at-node.ensures c.get-expr.ensures c.loop-position.invariant c.in-Ok-own_rows.ensures.ok c.put.ensures c.drop_inputs.ensures c.tick.ensures

pub returns-clause-means : goal.returns-clause-means
returns-clause-means g c =
    let ps = places c.in-Ok.order.places.items in
    let o : Ordered (g.K.Kernels.definitions c.args.kernels.now) c.args.frame.now c.args.arena.now (places c.args.roots.now) ps c.in-Ok.order.needed.items =
    record { fits = c.requires.fits; checked = c.requires.checked; order = c.in-Ok.ensures.order; reached = c.in-Ok.ensures.reached; roots = c.in-Ok.ensures.roots; read = c.in-Ok.ensures.read } in
    let l = length_places c.in-Ok.order.places.items in
    let e : c.len-position-end.result ≡ length c.in-Ok.order.places.items = c.len-position-end.ensures in
    let far : c.loop-position.position ≤ c.len-position-end.result = c.loop-position.auto.position-end in
    let near : c.len-position-end.result ≤ c.loop-position.position = c.loop-position-test.false in
    let end : c.loop-position.position ≡ length ps = omega arith in
    roots_kept (g.K.Kernels.definitions c.args.kernels.now) c.args.frame.now c.args.arena.now (places c.args.roots.now) ps c.in-Ok.order.needed.items o c.loop-position.position c.loop-position.table c.args.steps.now c.loop-position.steps end c.loop-position.invariant

pub returns-clause-only : goal.returns-clause-only
returns-clause-only g c =
    let ps = places c.in-Ok.order.places.items in
    let o : Ordered (g.K.Kernels.definitions c.args.kernels.now) c.args.frame.now c.args.arena.now (places c.args.roots.now) ps c.in-Ok.order.needed.items =
    record { fits = c.requires.fits; checked = c.requires.checked; order = c.in-Ok.ensures.order; reached = c.in-Ok.ensures.reached; roots = c.in-Ok.ensures.roots; read = c.in-Ok.ensures.read } in
    let l = length_places c.in-Ok.order.places.items in
    let e : c.len-position-end.result ≡ length c.in-Ok.order.places.items = c.len-position-end.ensures in
    let far : c.loop-position.position ≤ c.len-position-end.result = c.loop-position.auto.position-end in
    let near : c.len-position-end.result ≤ c.loop-position.position = c.loop-position-test.false in
    let end : c.loop-position.position ≡ length ps = omega arith in
    roots_alone (g.K.Kernels.definitions c.args.kernels.now) c.args.frame.now c.args.arena.now (places c.args.roots.now) ps c.in-Ok.order.needed.items o c.loop-position.position c.loop-position.table c.args.steps.now c.loop-position.steps end c.loop-position.invariant

pub returns-clause-ticks : goal.returns-clause-ticks
returns-clause-ticks g c =
    let e : c.len-position-end.result ≡ length c.in-Ok.order.places.items = c.len-position-end.ensures in
    let far : c.loop-position.position ≤ c.len-position-end.result = c.loop-position.auto.position-end in
    let ps = places c.in-Ok.order.places.items in
    let o : Ordered (g.K.Kernels.definitions c.args.kernels.now) c.args.frame.now c.args.arena.now (places c.args.roots.now) ps c.in-Ok.order.needed.items =
    record { fits = c.requires.fits; checked = c.requires.checked; order = c.in-Ok.ensures.order; reached = c.in-Ok.ensures.reached; roots = c.in-Ok.ensures.roots; read = c.in-Ok.ensures.read } in
    let l = length_places c.in-Ok.order.places.items in
    filled_ticks (g.K.Kernels.definitions c.args.kernels.now) c.args.frame.now c.args.arena.now (places c.args.roots.now) ps c.in-Ok.order.needed.items o c.loop-position.position c.loop-position.table c.args.steps.now c.loop-position.steps (omega arith) c.loop-position.invariant

pub returns-in-Err-clause-ticks : goal.returns-in-Err-clause-ticks
returns-in-Err-clause-ticks g c = no_ticks c.args.arena.now (places c.args.roots.now) c.args.steps.now

pub returns-in-Err-new-clause-ticks : goal.returns-in-Err-new-clause-ticks
returns-in-Err-new-clause-ticks g c = no_ticks c.args.arena.now (places c.args.roots.now) c.args.steps.now
