use Rattle.std.proofs.Common.{◌≡◌, List, length, sym, subst, rules}
use Rattle.px_arena.specs.declared.node.AExpr.{AExpr}
use Rattle.px_arena.specs.Denotes.{inputs_of, DenoteAll}
use Rattle.px_arena.proofs.Replaces.{added_denotes}
use Rattle.px_arena.proofs.arena.Arena.add.Goals as goal

pub returns-clause-denotes : goal.returns-clause-denotes
returns-clause-denotes c us ds =
    let e : c.args.self.now ≡ c.self.inside.items.items = sym c.self.view_is in
    let denoted = subst (λ (z : List AExpr). DenoteAll z (inputs_of c.args.expr) us) e ds in
    let is_next : c.len.result ≡ length c.self.inside.items.items = search rules in
    added_denotes c.self.inside.items.items c.push.new.self.items c.len.result c.args.expr us is_next c.in_ok-push.ensures.items denoted
