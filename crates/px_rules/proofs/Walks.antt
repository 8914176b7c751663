-- A walk over the roots, and walks until one replaces nothing.
use Rattle.std.proofs.Common.{◌≡◌, ℕ, zero, suc, ◌+◌, ◌≤◌, ◌<◌, List, [], ◌∷◌, length, get_or, Some, refl, sym, ◌∙◌, subst, arith, inl, inr}
use Rattle.std.specs.List.{slice_get}
use Rattle.std.proofs.lemmas.Option.{same_Some, slice_get_within}
use Rattle.std.proofs.lemmas.Bool.{cases_eq}
use Rattle.px_arena.specs.declared.node.AExpr.{AExpr}
use Rattle.px_arena.specs.declared.node.Node.{Node}
use Rattle.px_expr.specs.declared.context.Context.{Context}
use Rattle.px_expr.specs.Tree.{Tree, Trees, none, more}
use Rattle.px_meaning.specs.Laws.{KeepsMeaning}
use Rattle.px_meaning.specs.Rewriting.{IsNormal, AreNormal, Pairwise}
use Rattle.px_expr.specs.Plan.{Catalog}
use Rattle.px_meaning.specs.Weight.{weight, weights}
use Rattle.px_arena.specs.Denotes.{Denotes, DenoteAll, here, IsGrown}
use Rattle.px_arena.specs.Runs.{Runs, ListRuns}
use Rattle.px_arena.proofs.Weights.{weights-more}
use Rattle.px_rules.specs.Plan.{IsCheckedAt, AreCheckedAt, MeansTheSame, KeepMeanings, places}
use Rattle.px_rules.proofs.Checked.{input_checked, all_reach_checked, all_reached_mean}
use Rattle.px_arena.proofs.Places.{denotes_one, denote_all_one}
use Rattle.px_arena.proofs.Runs.{grown_denotes, run_of_none, run_list, list_runs_none, list_runs_join}
use Rattle.px_arena.proofs.Measure.{weight_at, weight_at_is, sum_of}
use Rattle.px_rules.proofs.Visits.{is_in_at, normal_all}

-- the first i roots are visited after r replacements
pub record IsWalked (Rewrite : Tree → Tree → Type 0) (ns : List ℕ) (old cur : List AExpr) (i r : ℕ) : Type 0 where
  pub runs : ListRuns Rewrite ns old cur r
  pub normal : r ≡ 0 → (k m : ℕ) → k < i → slice_get ns k ≡ Some m → (u : Tree) → Denotes cur m u → IsNormal Rewrite u

-- the sum of the weights of the trees that the places denote
abbrev pub weights_at : List AExpr → List ℕ → ℕ
weights_at items ns = sum_of (λ n. weight_at items n) ns

pub weights_at_are : (items : List AExpr) (ns : List ℕ) (us : Trees) → DenoteAll items ns us → weights_at items ns ≡ weights us
weights_at_are items [] none ds = refl
weights_at_are items [] (more u us) ds = absurd ds
weights_at_are items (n ∷ ns) none ds = absurd ds
weights_at_are items (n ∷ ns) (more u us) (d, ds) =
    let a : weight_at items n ≡ weight u = weight_at_is items n u d in
    let b : weights_at items ns ≡ weights us = weights_at_are items ns us ds in
    omega (arith, weights-more u us)

pub not_walked : (Rewrite : Tree → Tree → Type 0) (ns : List ℕ) (items : List AExpr) → IsWalked Rewrite ns items items 0 0
not_walked Rewrite ns items = record { runs = list_runs_none Rewrite ns items; normal = λ none k m lt. absurd (omega arith) }

module _ (c : Catalog) (context : Context) (Rewrite : Tree → Tree → Type 0) (keeps : KeepsMeaning c context Rewrite) where
  pub list_checked :
      (ns : List ℕ) (old cur : List AExpr) (r : ℕ) → ListRuns Rewrite ns old cur r → AreCheckedAt c old ns → AreCheckedAt c cur ns
  list_checked ns old cur r runs (us, ds, ok) = let x = runs us ds in (x.trees, x.denote, all_reach_checked c context Rewrite keeps us x.trees x.reach ok)

  pub root_checked :
      (ns : List ℕ) (old cur : List AExpr) (r i n : ℕ) →
      ListRuns Rewrite ns old cur r → AreCheckedAt c old ns → slice_get ns i ≡ Some n → IsCheckedAt c cur n
  root_checked ns old cur r i n runs d at =
      let (us, ds, ok) = list_checked ns old cur r runs d in
      let (u, du, fine, le) = input_checked c cur ns us n ds ok (is_in_at ns i n at) in
      (u, du, fine)

  pub walk_runs :
      (ns : List ℕ) (n : ℕ) (old cur new : List AExpr) (i r q : ℕ) →
      ListRuns Rewrite ns old cur r → slice_get ns i ≡ Some n → Runs Rewrite n cur new q → ListRuns Rewrite ns old new (r + q)
  walk_runs ns n old cur new i r q runs at run =
      list_runs_join Rewrite ns old cur new r q runs
      (λ us ds. run_list Rewrite keeps.lighter n cur new q run ns us n ds (is_in_at ns i n at) here)

  -- one more root is visited
  pub walked_more :
      (ns : List ℕ) (n : ℕ) (old cur new : List AExpr) (i r q : ℕ) →
      AreCheckedAt c old ns → IsWalked Rewrite ns old cur i r → slice_get ns i ≡ Some n → Runs Rewrite n cur new q →
      (q ≡ 0 → (u : Tree) → Denotes new n u → IsNormal Rewrite u) → IsWalked Rewrite ns old new (i + 1) (r + q)
  walked_more ns n old cur new i r q d w at run normal =
      record {
        runs = walk_runs ns n old cur new i r q w.runs at run;
        normal = λ none k m lt at' u du.
            elim (cases_eq k i) [
              | inl same ↦
                  let e : n ≡ m = same_Some n m (sym at ∙ subst (λ (z : ℕ). slice_get ns z ≡ Some m) same at') in
                  normal (omega arith) u (subst (λ (z : ℕ). Denotes new z u) (sym e) du)
              | inr ne ↦
                  let g : IsGrown cur new = run_of_none Rewrite n cur new q run (omega arith) in
                  let (v, dv, okv) = root_checked ns old cur r k m w.runs d at' in
                  let one : v ≡ u = denotes_one new m v u (grown_denotes cur new m v g dv) du in
                  subst (λ (z : Tree). IsNormal Rewrite z) one (w.normal (omega arith) k m (omega arith) at' v dv)
            ];
      }

  pub walked_all :
      (ns : List ℕ) (old cur : List AExpr) (i r : ℕ) →
      IsWalked Rewrite ns old cur i r → length ns ≤ i → r ≡ 0 → (us : Trees) → DenoteAll cur ns us → AreNormal Rewrite us
  walked_all ns old cur i r w le zero_runs us ds =
      normal_all Rewrite cur ns us ds
      (λ j m at u du. let lt = slice_get_within ns j m at in w.normal zero_runs j m (omega arith) at u du)

  -- a walk with a replacement lowers the sum of the weights
  pub walk_lighter :
      (ns : List ℕ) (old cur new : List AExpr) (r q : ℕ) →
      AreCheckedAt c old ns → ListRuns Rewrite ns old cur r → ListRuns Rewrite ns cur new q → 0 < q → weights_at new ns < weights_at cur ns
  walk_lighter ns old cur new r q d a b h =
      let (us, ds, ok) = list_checked ns old cur r a d in
      let x = b us ds in
      let p : weights_at cur ns ≡ weights us = weights_at_are cur ns us ds in
      let p2 : weights_at new ns ≡ weights x.trees = weights_at_are new ns x.trees x.denote in
      let bound : weights x.trees + q ≤ weights us = x.bound in
      omega arith

-- after replacements the places denote trees that mean the same
pub list_means :
    (c : Catalog) (context : Context) (Rewrite : Tree → Tree → Type 0) → KeepsMeaning c context Rewrite → (ns : List ℕ) (old new : List AExpr) (r : ℕ) →
    ListRuns Rewrite ns old new r → KeepMeanings c context ns old new
list_means c context Rewrite keeps ns old new r runs us vs ds es =
    let x = runs us ds in
    let same : x.trees ≡ vs = denote_all_one new ns x.trees vs x.denote es in
    subst (λ (z : Trees). Pairwise (MeansTheSame c context) us z) same (all_reached_mean c context Rewrite keeps us x.trees x.reach)

pub root_at : (ns : List Node) (i : ℕ) (d : Node) → i < length ns → slice_get (places ns) i ≡ Some (get_or ns i d).0
root_at [] i d h = absurd (omega arith)
root_at (n ∷ ns) zero d h = refl
root_at (n ∷ ns) (suc i) d h = root_at ns i d (omega arith)

pub length-places : (ns : List Node) → length (places ns) ≡ length ns
length-places [] = refl
length-places (n ∷ ns) = let h : length (places ns) ≡ length ns = length-places ns in omega arith
