use Rattle.std.proofs.Common.{◌≡◌, ◌≤◌, ◌∙◌, List, [], ◌∷◌, map, take, get_or, length, ap, sym, subst, refl, arith}
use Rattle.px_expr.specs.Tree.{Tree, tree_of}
use Rattle.px_rules.specs.Plan.{places}
use Rattle.px_eval.specs.Evaluated.{DenoteTrees}
use Rattle.px_eval.proofs.Lists.{in_roots, length_places}
use Rattle.px_eval.proofs.Columns.{nth_denotes, listed_more, take_whole, as_many}
use Rattle.px_eval.proofs.selection.raise_all.Goals as goal

map-same : (ts : List Tree) → map (λ (t : Tree). t) ts ≡ ts
map-same [] = refl
map-same (t ∷ ts) = ap (λ (z : List Tree). t ∷ z) (map-same ts)

pub raise-requires : goal.raise-requires
raise-requires c =
    let (ts, d) = c.requires in
    let at = in_roots c.args.roots.now c.loop-i.i (record { 0 = 0 }) c.loop-i-test.true in
    let n = nth_denotes c.args.arena.now (places c.args.roots.now) ts c.loop-i.i (get_or c.args.roots.now c.loop-i.i (record { 0 = 0 })).0 d at in
    (n.tree, n.denotes)

pub loop-i-preserved : goal.loop-i-preserved
loop-i-preserved c =
    let root = (get_or c.args.roots.now c.loop-i.i (record { 0 = 0 })).0 in
    let at = in_roots c.args.roots.now c.loop-i.i (record { 0 = 0 }) c.loop-i-test.true in
    λ ts d.
    let n = nth_denotes c.args.arena.now (places c.args.roots.now) ts c.loop-i.i root d at in
    listed_more tree_of (λ (t : Tree). t) c.loop-i.exprs.entries c.try_push.new.self.entries c.in-Ok.expr ts c.loop-i.i n.tree
    c.in_ok-try_push-in-Ok.ensures.ok (c.loop-i.invariant ts d) (c.in-Ok.ensures.tree n.tree n.denotes) n.at

pub returns-clause-trees : goal.returns-clause-trees
returns-clause-trees c =
    let (ts, d) = c.requires in
    let end : length c.args.roots.now ≤ c.loop-i.i = c.loop-i-test.false in
    let same = length_places c.args.roots.now in
    let many : length ts ≡ length (places c.args.roots.now) = as_many c.args.arena.now (places c.args.roots.now) ts d in
    let whole : map tree_of c.loop-i.exprs.entries ≡ ts = c.loop-i.invariant ts d ∙ (map-same (take c.loop-i.i ts) ∙ take_whole ts c.loop-i.i (omega arith)) in
    subst (λ (z : List Tree). DenoteTrees c.args.arena.now c.args.roots.now z) (sym whole) d
