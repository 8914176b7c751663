-- Lists of checked trees in an arena, and what rewriting makes of them.
use Rattle.std.proofs.Common.{◌≡◌, ℕ, zero, suc, ◌+◌, ◌<◌, ◌≤◌, List, [], ◌∷◌, ◌++◌, length, get_or, take, map, Result, Ok, Err, refl, sym, ◌∙◌, ap, subst, add-one, arith}
use Rattle.std.specs.List.{All}
use Rattle.std.specs.Result.{IfOk}
use Rattle.std.proofs.lemmas.List.Elements.{All-head, All-tail}
use Rattle.px_base.specs.declared.error.PlanError.{PlanError}
use Rattle.px_expr.specs.declared.context.Context.{Context}
use Rattle.px_expr.specs.Plan.{Catalog}
use Rattle.px_expr.specs.Tree.{Tree, Trees, more, tree_of}
use Rattle.px_meaning.specs.Check.{Typed, HasType, check_list}
use Rattle.px_meaning.specs.Rewrites.{IsRewrite}
use Rattle.px_meaning.specs.Rewriting.{Pairwise, AllReach, Moves}
use Rattle.px_meaning.specs.Weight.{weights}
use Rattle.px_meaning.proofs.Lines.{IsRewrite-keeps}
use Rattle.px_meaning.proofs.Lists.{check_list-checked}
use Rattle.px_check.specs.CheckedTree.{CheckedTree, typed_of}
use Rattle.px_arena.specs.declared.node.AExpr.{AExpr}
use Rattle.px_arena.specs.declared.node.Node.{Node}
use Rattle.px_arena.specs.Denotes.{Denotes, DenoteAll, IsGrown}
use Rattle.px_arena.specs.Runs.{IsRewritten}
use Rattle.px_arena.proofs.Places.{denote_all_one}
use Rattle.px_arena.proofs.Runs.{grown_denote_all}
use Rattle.px_plan.specs.Optimized.{Rewritten, trees_of, typed_trees, FromChecked}
use Rattle.px_rules.specs.Plan.{AreChecked, MeansTheSame, places}
use Rattle.px_rules.proofs.Checked.{all_reached_mean}

one_more :
    (items : List AExpr) (ps : List Node) (p : Node) (hs : List CheckedTree) (i : ℕ) (d : CheckedTree) → i < length hs →
    DenoteAll items (places ps) (trees_of (take i hs)) → Denotes items p.0 (tree_of (get_or hs i d).tree) →
    DenoteAll items (places (ps ++ p ∷ [])) (trees_of (take (suc i) hs))
one_more items ps p [] i d h all one = absurd (omega arith)
one_more items [] p (e ∷ es) zero d h all one = (one, tt)
one_more items (q ∷ ps) p (e ∷ es) zero d h all one = absurd all
one_more items [] p (e ∷ es) (suc i) d h all one = absurd all
one_more items (q ∷ ps) p (e ∷ es) (suc i) d h (f, all) one = (f, one_more items ps p es i d (omega arith) all one)

-- one more of the checked expressions has its place
pub denote_more :
    (old mid : List AExpr) (ps qs : List Node) (p : Node) (hs : List CheckedTree) (i : ℕ) (e d : CheckedTree) → i < length hs → e ≡ get_or hs i d →
    IsGrown old mid → DenoteAll old (places ps) (trees_of (take i hs)) → Denotes mid p.0 (tree_of e.tree) → qs ≡ ps ++ p ∷ [] →
    DenoteAll mid (places qs) (trees_of (take (i + 1) hs))
denote_more old mid ps qs p hs i e d h is g all one pushed =
    let at : Denotes mid p.0 (tree_of (get_or hs i d).tree) = subst (λ (z : CheckedTree). Denotes mid p.0 (tree_of z.tree)) is one in
    let grown = grown_denote_all old mid (places ps) (trees_of (take i hs)) g all in
    let whole = one_more mid ps p hs i d h grown at in
    let listed = subst (λ (z : List Node). DenoteAll mid (places z) (trees_of (take (suc i) hs))) (sym pushed) whole in
    subst (λ (k : ℕ). DenoteAll mid (places qs) (trees_of (take k hs))) (sym (add-one i)) listed

take_all : (hs : List CheckedTree) (i : ℕ) → length hs ≤ i → take i hs ≡ hs
take_all [] zero h = refl
take_all [] (suc i) h = refl
take_all (x ∷ xs) zero h = absurd (omega arith)
take_all (x ∷ xs) (suc i) h = let e = take_all xs i (omega arith) in cc

pub denote_listed :
    (items : List AExpr) (ns : List ℕ) (hs : List CheckedTree) (i : ℕ) → length hs ≤ i → DenoteAll items ns (trees_of (take i hs)) → DenoteAll items ns (trees_of hs)
denote_listed items ns hs i h all = subst (λ (z : List CheckedTree). DenoteAll items ns (trees_of z)) (take_all hs i h) all

all_checked : (c : Catalog) (hs : List CheckedTree) → All (λ (v : Typed). HasType c v.tree v.value_type) (map typed_of hs) → AreChecked c (trees_of hs)
all_checked c [] all = tt
all_checked c (h ∷ hs) all = (
  (h.value_type, All-head (λ (v : Typed). HasType c v.tree v.value_type) (typed_of h) (map typed_of hs) all),
  all_checked c hs (All-tail (λ (v : Typed). HasType c v.tree v.value_type) (typed_of h) (map typed_of hs) all),
)

typed_held : (hs : List CheckedTree) → typed_trees (map typed_of hs) ≡ trees_of hs
typed_held [] = refl
typed_held (h ∷ hs) = ap (λ (us : Trees). more (tree_of h.tree) us) (typed_held hs)

-- the checked expressions of a list have checked trees
pub checked_list : (c : Catalog) (context : Context) (ts : List Tree) (hs : List CheckedTree) → check_list c context ts ≡ Ok (map typed_of hs) → AreChecked c (trees_of hs)
checked_list c context ts hs e = all_checked c hs (check_list-checked c context ts (map typed_of hs) e)

same_Ok : (as' bs : List Typed) → ◌≡◌ {A = Result (List Typed) PlanError} (Ok as') (Ok bs) → as' ≡ bs
same_Ok as' bs e = cc

module _ (c : Catalog) (context : Context) (checked : Result (List Typed) PlanError) (hs : List CheckedTree) (is : checked ≡ Ok (map typed_of hs)) (n : ℕ) where
  -- rewriting made this of the checked trees
  abbrev Made : Rewritten → Type 0
  Made o = IsRewritten (IsRewrite c context) o.arena (places o.roots) (trees_of hs) n

  related : (Related : Trees → Trees → Type 0) (o : Rewritten) (x : Made o) → Related (trees_of hs) x.trees → FromChecked checked Related o
  related Related o x h ts us e d =
      let same : x.trees ≡ us = denote_all_one o.arena (places o.roots) x.trees us x.denote d in
      let typed : map typed_of hs ≡ ts = same_Ok (map typed_of hs) ts (sym is ∙ e) in
      let held : trees_of hs ≡ typed_trees ts = sym (typed_held hs) ∙ ap typed_trees typed in
      subst (λ (z : Trees). Related z us) held (subst (λ (z : Trees). Related (trees_of hs) z) same h)

  pub made_denotes : (r : Result Rewritten PlanError) → IfOk r Made → IfOk r (λ o. (us : Trees) × DenoteAll o.arena (places o.roots) us)
  made_denotes (Ok o) x = (x.trees, x.denote)
  made_denotes (Err e) x = tt

  pub made_moves : (r : Result Rewritten PlanError) → IfOk r Made → IfOk r (FromChecked checked (λ ts us. Moves (IsRewrite c context) ts us n))
  made_moves (Ok o) x = related (λ ts us. Moves (IsRewrite c context) ts us n) o x x.moves
  made_moves (Err e) x = tt

  pub made_reach : (r : Result Rewritten PlanError) → IfOk r Made → IfOk r (FromChecked checked (AllReach (IsRewrite c context)))
  made_reach (Ok o) x = related (AllReach (IsRewrite c context)) o x x.reach
  made_reach (Err e) x = tt

  pub made_means : (r : Result Rewritten PlanError) → IfOk r Made → IfOk r (FromChecked checked (Pairwise (MeansTheSame c context)))
  made_means (Ok o) x =
      related (Pairwise (MeansTheSame c context)) o x
      (all_reached_mean c context (IsRewrite c context) (IsRewrite-keeps c context) (trees_of hs) x.trees x.reach)
  made_means (Err e) x = tt

  pub made_lighter : (r : Result Rewritten PlanError) → IfOk r Made → IfOk r (FromChecked checked (λ ts us. weights us + n ≤ weights ts))
  made_lighter (Ok o) x = related (λ ts us. weights us + n ≤ weights ts) o x x.bound
  made_lighter (Err e) x = tt

  -- what holds of the trees of the checked expressions holds of those that the check gave
  pub of_checked : (P : Trees → Type 0) → P (trees_of hs) → IfOk checked (λ ts. P (typed_trees ts))
  of_checked P h = subst (λ (r : Result (List Typed) PlanError). IfOk r (λ ts. P (typed_trees ts))) (sym is) (subst P (sym (typed_held hs)) h)
