use Rattle.std.proofs.Common.{◌≡◌, ◌<◌, ℕ, arith, sym, ◌∙◌, ap, subst, Some, List, option_map}
use Rattle.px_base.specs.Answer.{GivesOrMemory}
use Rattle.px_arena.specs.declared.node.Node.{Node}
use Rattle.px_arena.specs.Denotes.{inputs_of}
use Rattle.px_arena.proofs.Measure.{weight_at, denoted_within}
use Rattle.px_arena.proofs.Raises.{has_input}
use Rattle.px_rules.specs.Fusion.{name_input}
use Rattle.px_rules.proofs.LiteralFree.{named_below, named_here, name_in}
use Rattle.px_rules.proofs.Visits.{is_in_at}
use Rattle.px_rules.proofs.output_name.+name_at.Goals as goal

pub get-expr-requires : goal.get-expr-requires
get-expr-requires t c = let (u, d) = c.requires in denoted_within c.args.arena.now c.args.node.0 u d

pub name_at-requires : goal.name_at-requires
name_at-requires t c =
    let (u, d) = c.requires in
    let is : name_input c.get-expr.result.now ≡ Some c.in-Some.input.0 = sym c.name_input.ensures ∙ ap (option_map (λ (n : Node). n.0)) c.in-Some.is in
    let (k, at) = name_in c.get-expr.result.now c.in-Some.input.0 is in
    let i = has_input c.args.arena.now c.args.node.0 c.in-Some.input.0 c.get-expr.result.now u d c.get-expr.ensures (is_in_at (inputs_of c.get-expr.result.now) k c.in-Some.input.0 at) in
    let less : weight_at c.args.arena.now c.in-Some.input.0 < weight_at c.args.arena.now c.args.node.0 = i.lighter in
    let start : weight_at c.args.arena.now c.args.node.0 ≡ t = c.decreases in
    let falls : weight_at c.args.arena.now c.in-Some.input.0 < t = omega arith in
    (falls, i.denoted)

pub returns-in-Some-clause-name : goal.returns-in-Some-clause-name
returns-in-Some-clause-name t c =
    λ u d.
    let is : name_input c.get-expr.result.now ≡ Some c.in-Some.input.0 = sym c.name_input.ensures ∙ ap (option_map (λ (n : Node). n.0)) c.in-Some.is in
    let (v, dv, same) = named_below c.args.arena.now c.args.node.0 c.in-Some.input.0 c.get-expr.result.now u d c.get-expr.ensures is in
    subst (λ (z : List ℕ). GivesOrMemory c.name_at.result z) (sym same) (c.name_at.ensures.name v dv)

pub returns-in-None-clause-name : goal.returns-in-None-clause-name
returns-in-None-clause-name t c =
    λ u d.
    let is = sym c.name_input.ensures ∙ ap (option_map (λ (n : Node). n.0)) c.in-None.is in
    let same = named_here c.args.arena.now c.args.node.0 c.get-expr.result.now u d c.get-expr.ensures is in
    subst (λ (z : List ℕ). GivesOrMemory c.own_name.result z) (sym same) c.own_name.ensures
