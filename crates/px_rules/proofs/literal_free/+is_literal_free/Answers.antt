use Rattle.std.proofs.Common.{◌≡◌, ◌<◌, arith, sym, ◌∙◌}
use Rattle.px_arena.specs.Denotes.{inputs_of}
use Rattle.px_arena.proofs.Measure.{weight_at, denoted_within}
use Rattle.px_arena.proofs.Raises.{has_input}
use Rattle.px_rules.proofs.LiteralFree.{free_all, bound_input, bound_here}
use Rattle.px_rules.proofs.Visits.{is_in_at}
use Rattle.px_rules.proofs.literal_free.+is_literal_free.Goals as goal

pub get-expr-requires : goal.get-expr-requires
get-expr-requires t c = let (u, d) = c.requires in denoted_within c.args.arena.now c.args.node.0 u d

pub returns-then-is_literal : goal.returns-then-is_literal
returns-then-is_literal t c = λ u d. bound_here c.args.arena.now c.args.node.0 c.get-expr.result.now u c.get-expr.ensures (sym c.is_literal.ensures ∙ c.if-is_literal.true) d

pub is_literal_free-requires : goal.is_literal_free-requires
is_literal_free-requires t c =
    let (u, d) = c.requires in
    let i = has_input c.args.arena.now c.args.node.0 c.input.result.0 c.get-expr.result.now u d c.get-expr.ensures (is_in_at (inputs_of c.get-expr.result.now) c.loop-i.i c.input.result.0 c.input.ensures) in
    let less : weight_at c.args.arena.now c.input.result.0 < weight_at c.args.arena.now c.args.node.0 = i.lighter in
    let start : weight_at c.args.arena.now c.args.node.0 ≡ t = c.decreases in
    let falls : weight_at c.args.arena.now c.input.result.0 < t = omega arith in
    (falls, i.denoted)

pub returns-then-not-is_literal_free : goal.returns-then-not-is_literal_free
returns-then-not-is_literal_free t c =
    λ u d. bound_input c.args.arena.now c.args.node.0 c.loop-i.i c.input.result.0 c.get-expr.result.now u c.get-expr.ensures c.input.ensures (λ v dv. sym (c.is_literal_free.ensures v dv) ∙ c.if-not-is_literal_free.true) d

pub returns : goal.returns
returns t c =
    let (at, inputs, lit, free) = c.loop-i.invariant in
    λ u d. free_all c.args.arena.now c.args.node.0 c.loop-i.i c.get-expr.result.now u at lit free (omega (arith, inputs, c.loop-i-test.false)) d
