use Rattle.std.proofs.Common.{◌≡◌, List, set, sym, subst}
use Rattle.px_expr.specs.Tree.{Trees}
use Rattle.px_meaning.specs.Rewriting.{ReplacedAll}
use Rattle.px_arena.specs.declared.node.AExpr.{AExpr}
use Rattle.px_arena.specs.Denotes.{Denotes, DenoteAll}
use Rattle.px_arena.proofs.Replaces.{not_reached, list_replaced}
use Rattle.px_arena.proofs.arena.Arena.replace.Goals as goal

pub returns-clause-other : goal.returns-clause-other
returns-clause-other g c n u apart d =
    let e : c.args.self.now ≡ c.self.inside.items.items = sym c.self.view_is in
    subst (λ (z : List AExpr). Denotes (set z c.args.node.0 c.args.expr) n u) e (not_reached c.args.self.now c.args.node.0 c.args.expr n u apart d)

pub returns-clause-replaced : goal.returns-clause-replaced
returns-clause-replaced g c t t' d fits ns us ds =
    let e : c.args.self.now ≡ c.self.inside.items.items = sym c.self.view_is in
    subst (λ (z : List AExpr). (vs : Trees) × DenoteAll (set z c.args.node.0 c.args.expr) ns vs × ReplacedAll t t' us vs) e
    (list_replaced c.args.self.now c.args.node.0 c.args.expr t t' c.requires.within d fits ns us ds)
