-- The visit of a place: it is normal_place, and then its inputs are visited from left to right.
use Rattle.std.proofs.Common.{◌≡◌, ℕ, zero, suc, ◌+◌, ◌≤◌, ◌<◌, List, [], ◌∷◌, length, Some, refl, sym, ◌∙◌, subst, arith, inl, inr}
use Rattle.std.specs.List.{slice_get}
use Rattle.std.proofs.lemmas.Option.{same_Some, slice_get_within}
use Rattle.std.proofs.lemmas.Bool.{cases_eq}
use Rattle.px_arena.specs.declared.node.AExpr.{AExpr}
use Rattle.px_expr.specs.declared.context.Context.{Context}
use Rattle.px_expr.specs.Tree.{Tree, tree, Trees, none, more}
use Rattle.px_meaning.specs.Laws.{KeepsMeaning}
use Rattle.px_meaning.specs.Rewriting.{HasNoRewrite, IsNormal, AreNormal}
use Rattle.px_expr.specs.Plan.{Catalog}
use Rattle.px_meaning.specs.Weight.{weight, weights}
use Rattle.px_arena.specs.Denotes.{inputs_of, Denotes, DenoteAll, IsIn, first, later, IsGrown}
use Rattle.px_arena.specs.Runs.{Runs}
use Rattle.px_arena.proofs.Weights.{weigh, weigh_above}
use Rattle.px_rules.specs.Plan.{IsCheckedAt}
use Rattle.px_arena.proofs.Places.{input_denotes, denotes_one}
use Rattle.px_arena.proofs.Runs.{grown_denotes, runs_join, run_of_none, run_of_input}
use Rattle.px_rules.proofs.Turns.{run_one, run_checked}
use Rattle.px_rules.proofs.Checked.{inputs_checked, input_checked}
use Rattle.px_arena.proofs.Measure.{weight_at, weight_at_is}

-- the first i inputs of the place n, which holds x, are visited after r replacements
pub record IsVisited (Rewrite : Tree → Tree → Type 0) (n : ℕ) (old cur : List AExpr) (x : AExpr) (i r : ℕ) : Type 0 where
  pub node : slice_get cur n ≡ Some x
  pub runs : Runs Rewrite n old cur r
  pub normal_place : r ≡ 0 → (t : Tree) → Denotes cur n t → HasNoRewrite Rewrite t
  pub normal : r ≡ 0 → (k m : ℕ) → k < i → slice_get (inputs_of x) k ≡ Some m → (u : Tree) → Denotes cur m u → IsNormal Rewrite u

pub is_in_at : (ns : List ℕ) (k m : ℕ) → slice_get ns k ≡ Some m → IsIn m ns
is_in_at [] k m e = cc
is_in_at (n ∷ ns) zero m e = subst (λ (z : ℕ). IsIn z (n ∷ ns)) (same_Some n m e) first
is_in_at (n ∷ ns) (suc k) m e = later (is_in_at ns k m e)

pub normal_all :
    (Rewrite : Tree → Tree → Type 0) (items : List AExpr) (ns : List ℕ) (us : Trees) → DenoteAll items ns us →
    ((k m : ℕ) → slice_get ns k ≡ Some m → (u : Tree) → Denotes items m u → IsNormal Rewrite u) → AreNormal Rewrite us
normal_all Rewrite items [] none ds each = tt
normal_all Rewrite items [] (more u us) ds each = absurd ds
normal_all Rewrite items (n ∷ ns) none ds each = absurd ds
normal_all Rewrite items (n ∷ ns) (more u us) (d, ds) each =
    (each 0 n refl u d, normal_all Rewrite items ns us ds (λ k m at. each (suc k) m at))

module _ (c : Catalog) (context : Context) (Rewrite : Tree → Tree → Type 0) (keeps : KeepsMeaning c context Rewrite) where
  pub checked_input : (n m : ℕ) (cur : List AExpr) (x : AExpr) → slice_get cur n ≡ Some x → IsIn m (inputs_of x) → IsCheckedAt c cur n → IsCheckedAt c cur m
  checked_input n m cur x at i (tree k us, (y, at', root, ins), ok) =
      let e : y ≡ x = same_Some y x (sym at' ∙ at) in
      let ins2 : DenoteAll cur (inputs_of x) us = subst (λ (z : AExpr). DenoteAll cur (inputs_of z) us) e ins in
      let (u, du, fine, le) = input_checked c cur (inputs_of x) us m ins2 (inputs_checked c k us ok) i in
      (u, du, fine)

  lighter_input : (n m : ℕ) (cur : List AExpr) (x : AExpr) (t : Tree) → slice_get cur n ≡ Some x → IsIn m (inputs_of x) → Denotes cur n t → weight_at cur m < weight t
  lighter_input n m cur x (tree k us) at i (y, at', root, ins) =
      let e : y ≡ x = same_Some y x (sym at' ∙ at) in
      let ins2 : DenoteAll cur (inputs_of x) us = subst (λ (z : AExpr). DenoteAll cur (inputs_of z) us) e ins in
      let (u, du, le) = input_denotes cur (inputs_of x) us m ins2 i in
      let a : weight_at cur m ≡ weight u = weight_at_is cur m u du in
      let b : weights us < weigh k (weights us) = weigh_above k (weights us) in
      omega arith

  -- the next input denotes a tree, which weighs less than the visited place's at the start
  pub next_checked :
      (n m : ℕ) (old cur : List AExpr) (x : AExpr) (i r : ℕ) →
      IsCheckedAt c old n → IsVisited Rewrite n old cur x i r → slice_get (inputs_of x) i ≡ Some m → IsCheckedAt c cur m
  next_checked n m old cur x i r d v at =
      checked_input n m cur x v.node (is_in_at (inputs_of x) i m at) (run_checked c context Rewrite keeps n old cur r v.runs d)

  pub next_lighter :
      (n m : ℕ) (old cur : List AExpr) (x : AExpr) (i r : ℕ) →
      IsCheckedAt c old n → IsVisited Rewrite n old cur x i r → slice_get (inputs_of x) i ≡ Some m → weight_at cur m < weight_at old n
  next_lighter n m old cur x i r (t, d, ok) v at =
      let to = run_one Rewrite keeps.lighter n old cur r t v.runs d in
      let bound : weight to.tree + r ≤ weight t = to.bound in
      let a : weight_at old n ≡ weight t = weight_at_is old n t d in
      let b : weight_at cur m < weight to.tree = lighter_input n m cur x to.tree v.node (is_in_at (inputs_of x) i m at) to.denotes in
      omega arith

  pub run_more :
      (n m : ℕ) (old cur new : List AExpr) (x : AExpr) (i r q : ℕ) →
      IsCheckedAt c old n → IsVisited Rewrite n old cur x i r → slice_get (inputs_of x) i ≡ Some m → Runs Rewrite m cur new q → Runs Rewrite n old new (r + q)
  run_more n m old cur new x i r q d v at run =
      let (t, dt, ok) = run_checked c context Rewrite keeps n old cur r v.runs d in
      let (lifted, node) = run_of_input Rewrite keeps.lighter n m x cur new q (is_in_at (inputs_of x) i m at) run t dt v.node in
      runs_join Rewrite n old cur new r q (r + q) v.runs lifted refl

  -- an input is visited
  pub visited_more :
      (n m : ℕ) (old cur new : List AExpr) (x : AExpr) (i r q : ℕ) →
      IsCheckedAt c old n → IsVisited Rewrite n old cur x i r → slice_get (inputs_of x) i ≡ Some m → Runs Rewrite m cur new q →
      (q ≡ 0 → (u : Tree) → Denotes new m u → IsNormal Rewrite u) → IsVisited Rewrite n old new x (i + 1) (r + q)
  visited_more n m old cur new x i r q d v at run normal =
      let (t, dt, ok) = run_checked c context Rewrite keeps n old cur r v.runs d in
      let (lifted, node) = run_of_input Rewrite keeps.lighter n m x cur new q (is_in_at (inputs_of x) i m at) run t dt v.node in
      record {
        node = node;
        runs = runs_join Rewrite n old cur new r q (r + q) v.runs lifted refl;
        normal_place = λ none w dw.
            let g : IsGrown cur new = run_of_none Rewrite m cur new q run (omega arith) in
            let same : t ≡ w = denotes_one new n t w (grown_denotes cur new n t g dt) dw in
            subst (λ (z : Tree). HasNoRewrite Rewrite z) same (v.normal_place (omega arith) t dt);
        normal = λ none k o lt at' u du.
            let g : IsGrown cur new = run_of_none Rewrite m cur new q run (omega arith) in
            elim (cases_eq k i) [
              | inl same ↦
                  let e : m ≡ o = same_Some m o (sym at ∙ subst (λ (z : ℕ). slice_get (inputs_of x) z ≡ Some o) same at') in
                  normal (omega arith) u (subst (λ (z : ℕ). Denotes new z u) (sym e) du)
              | inr ne ↦
                  let (w, dw, okw) = checked_input n o cur x v.node (is_in_at (inputs_of x) k o at') (t, dt, ok) in
                  let same : w ≡ u = denotes_one new o w u (grown_denotes cur new o w g dw) du in
                  subst (λ (z : Tree). IsNormal Rewrite z) same (v.normal (omega arith) k o (omega arith) at' w dw)
            ];
      }

  -- all inputs are visited
  pub visited_all :
      (n : ℕ) (old cur : List AExpr) (x : AExpr) (i r : ℕ) →
      IsVisited Rewrite n old cur x i r → length (inputs_of x) ≤ i → r ≡ 0 → (t : Tree) → Denotes cur n t → IsNormal Rewrite t
  visited_all n old cur x i r v le zero_runs (tree k us) (y, at', root, ins) =
      let e : y ≡ x = same_Some y x (sym at' ∙ v.node) in
      let ins2 : DenoteAll cur (inputs_of x) us = subst (λ (z : AExpr). DenoteAll cur (inputs_of z) us) e ins in (
        v.normal_place zero_runs (tree k us) (y, at', root, ins),
        normal_all Rewrite cur (inputs_of x) us ins2
            (λ j m at u du. let lt = slice_get_within (inputs_of x) j m at in v.normal zero_runs j m (omega arith) at u du),
      )
