use Rattle.std.proofs.Common.{◌≡◌, ◌<◌, ◌≤◌, ◌∙◌, ◌++◌, List, [], ◌∷◌, Some, set, length, ap, sym, arith}
use Rattle.px_arena.specs.declared.node.Node.{Node}
use Rattle.px_arena.proofs.Measure.{weight_at, denoted_within}
use Rattle.px_rules.specs.Plan.{places}
use Rattle.px_eval.proofs.Lists.{empty_of, length_places}
use Rattle.px_eval.proofs.Ordering.{an_input, visiting_start, visiting_more, inputs_placed, visited}
use Rattle.px_eval.proofs.order.+visit.Goals as goal

pub has-requires : goal.has-requires
has-requires t c =
    let (u, d) = c.requires.denotes in
    let within = denoted_within c.args.arena.now c.args.node.0 u d in
    let same_length : length c.args.order.now.needed.items ≡ length c.args.arena.now = c.requires.order.same_length in
    omega arith

pub get-expr-requires : goal.get-expr-requires
get-expr-requires t c = let (u, d) = c.requires.denotes in denoted_within c.args.arena.now c.args.node.0 u d

pub loop-i-init : goal.loop-i-init
loop-i-init t c = visiting_start c.args.arena.now c.args.node.0 c.get-expr.result.now c.args.order.now.needed.items (places c.args.order.now.places.items) c.requires.order c.requires.read (empty_of _ (sym c.has.ensures ∙ c.if-has.false))

pub visit-requires : goal.visit-requires
visit-requires t c =
    let input = an_input c.args.arena.now c.args.node.0 c.loop-i.i c.input.result.0 c.get-expr.result.now c.requires.denotes c.get-expr.ensures c.input.ensures in
    let less : weight_at c.args.arena.now c.input.result.0 < weight_at c.args.arena.now c.args.node.0 = input.lighter in
    let start : weight_at c.args.arena.now c.args.node.0 ≡ t = c.decreases in
    let falls : weight_at c.args.arena.now c.input.result.0 < t = omega arith in
    (falls, (input.denotes, (c.loop-i.invariant.order, c.loop-i.invariant.read)))

pub loop-i-preserved : goal.loop-i-preserved
loop-i-preserved t c =
    let input = an_input c.args.arena.now c.args.node.0 c.loop-i.i c.input.result.0 c.get-expr.result.now c.requires.denotes c.get-expr.ensures c.input.ensures in
    visiting_more c.args.arena.now c.args.node.0 c.loop-i.i c.input.result.0 c.get-expr.result.now c.args.order.now.needed.items c.loop-i.order.needed.items c.visit.new.order.needed.items
    (places c.loop-i.order.places.items) (places c.visit.new.order.places.items) input c.input.ensures c.loop-i.invariant c.in_ok-visit.ensures.order c.in_ok-visit.ensures.read c.in_ok-visit.ensures.kept c.in_ok-visit.ensures.reached c.in_ok-visit.ensures.placed

pub need_inputs-requires : goal.need_inputs-requires
need_inputs-requires t c =
    let all = inputs_placed c.args.arena.now c.args.node.0 c.loop-i.i c.get-expr.result.now c.args.order.now.needed.items c.loop-i.order.needed.items (places c.loop-i.order.places.items)
    (let e : c.input_count-i-end.result ≤ c.loop-i.i = c.loop-i-test.false in omega (arith, c.input_count-i-end.ensures)) c.loop-i.invariant in
    all

pub place-requires : goal.place-requires
place-requires t c =
    let (u, d) = c.requires.denotes in
    let within = denoted_within c.args.arena.now c.args.node.0 u d in
    let same_length : length c.loop-i.order.needed.items ≡ length c.args.arena.now = c.loop-i.invariant.order.same_length in
    let more : length c.need_inputs.new.order.needed.items ≡ length c.loop-i.order.needed.items = c.need_inputs.ensures.raised.same_length in
    omega arith

pub returns-clause-order : goal.returns-clause-order
returns-clause-order t c =
    let whole = visited c.args.arena.now c.args.node.0 c.loop-i.i (length c.loop-i.order.places.items) c.get-expr.result.now c.args.order.now.needed.items c.loop-i.order.needed.items c.need_inputs.new.order.needed.items c.place.new.self.needed.items
    (places c.loop-i.order.places.items) (places c.place.new.self.places.items) (sym (length_places c.loop-i.order.places.items)) c.get-expr.ensures c.loop-i.invariant c.need_inputs.ensures.raised c.need_inputs.ensures.inputs
    (c.in_ok-place.ensures.places ∙ ap (λ (z : List Node). places z ++ c.args.node.0 ∷ []) c.need_inputs.ensures.places)
    (c.in_ok-place.ensures.needed ∙ ap (λ (z : List Node). set c.need_inputs.new.order.needed.items c.args.node.0 (Some (length z))) c.need_inputs.ensures.places) in
    whole.order

pub returns-clause-read : goal.returns-clause-read
returns-clause-read t c =
    let whole = visited c.args.arena.now c.args.node.0 c.loop-i.i (length c.loop-i.order.places.items) c.get-expr.result.now c.args.order.now.needed.items c.loop-i.order.needed.items c.need_inputs.new.order.needed.items c.place.new.self.needed.items
    (places c.loop-i.order.places.items) (places c.place.new.self.places.items) (sym (length_places c.loop-i.order.places.items)) c.get-expr.ensures c.loop-i.invariant c.need_inputs.ensures.raised c.need_inputs.ensures.inputs
    (c.in_ok-place.ensures.places ∙ ap (λ (z : List Node). places z ++ c.args.node.0 ∷ []) c.need_inputs.ensures.places)
    (c.in_ok-place.ensures.needed ∙ ap (λ (z : List Node). set c.need_inputs.new.order.needed.items c.args.node.0 (Some (length z))) c.need_inputs.ensures.places) in
    whole.read

pub returns-clause-kept : goal.returns-clause-kept
returns-clause-kept t c =
    let whole = visited c.args.arena.now c.args.node.0 c.loop-i.i (length c.loop-i.order.places.items) c.get-expr.result.now c.args.order.now.needed.items c.loop-i.order.needed.items c.need_inputs.new.order.needed.items c.place.new.self.needed.items
    (places c.loop-i.order.places.items) (places c.place.new.self.places.items) (sym (length_places c.loop-i.order.places.items)) c.get-expr.ensures c.loop-i.invariant c.need_inputs.ensures.raised c.need_inputs.ensures.inputs
    (c.in_ok-place.ensures.places ∙ ap (λ (z : List Node). places z ++ c.args.node.0 ∷ []) c.need_inputs.ensures.places)
    (c.in_ok-place.ensures.needed ∙ ap (λ (z : List Node). set c.need_inputs.new.order.needed.items c.args.node.0 (Some (length z))) c.need_inputs.ensures.places) in
    whole.kept

pub returns-clause-reached : goal.returns-clause-reached
returns-clause-reached t c =
    let whole = visited c.args.arena.now c.args.node.0 c.loop-i.i (length c.loop-i.order.places.items) c.get-expr.result.now c.args.order.now.needed.items c.loop-i.order.needed.items c.need_inputs.new.order.needed.items c.place.new.self.needed.items
    (places c.loop-i.order.places.items) (places c.place.new.self.places.items) (sym (length_places c.loop-i.order.places.items)) c.get-expr.ensures c.loop-i.invariant c.need_inputs.ensures.raised c.need_inputs.ensures.inputs
    (c.in_ok-place.ensures.places ∙ ap (λ (z : List Node). places z ++ c.args.node.0 ∷ []) c.need_inputs.ensures.places)
    (c.in_ok-place.ensures.needed ∙ ap (λ (z : List Node). set c.need_inputs.new.order.needed.items c.args.node.0 (Some (length z))) c.need_inputs.ensures.places) in
    whole.reached

pub returns-clause-placed : goal.returns-clause-placed
returns-clause-placed t c =
    let whole = visited c.args.arena.now c.args.node.0 c.loop-i.i (length c.loop-i.order.places.items) c.get-expr.result.now c.args.order.now.needed.items c.loop-i.order.needed.items c.need_inputs.new.order.needed.items c.place.new.self.needed.items
    (places c.loop-i.order.places.items) (places c.place.new.self.places.items) (sym (length_places c.loop-i.order.places.items)) c.get-expr.ensures c.loop-i.invariant c.need_inputs.ensures.raised c.need_inputs.ensures.inputs
    (c.in_ok-place.ensures.places ∙ ap (λ (z : List Node). places z ++ c.args.node.0 ∷ []) c.need_inputs.ensures.places)
    (c.in_ok-place.ensures.needed ∙ ap (λ (z : List Node). set c.need_inputs.new.order.needed.items c.args.node.0 (Some (length z))) c.need_inputs.ensures.places) in
    whole.placed
