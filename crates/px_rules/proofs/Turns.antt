-- One replacement by the driver.
use Rattle.std.proofs.Common.{◌≡◌, ℕ, ◌+◌, ◌≤◌, ◌<◌, List, [], ◌∷◌, length, Some, None, set, refl, subst, arith}
use Rattle.px_arena.specs.declared.node.AExpr.{AExpr}
use Rattle.px_expr.specs.declared.context.Context.{Context}
use Rattle.px_expr.specs.Tree.{Tree, Trees, none, more}
use Rattle.px_meaning.specs.Laws.{KeepsMeaning}
use Rattle.px_meaning.specs.Rewriting.{HasNoRewrite, Reaches as LeadsTo, AllReach}
use Rattle.px_expr.specs.Plan.{Catalog}
use Rattle.px_meaning.specs.Weight.{weight, weights}
use Rattle.px_arena.specs.Denotes.{inputs_of, Denotes, DenoteAll, IsIn, first, Reaches, here, IsGrown}
use Rattle.px_arena.specs.Runs.{Offers, Runs, done, grown, put}
use Rattle.px_arena.proofs.Weights.{weights-more}
use Rattle.px_rules.specs.Plan.{IsCheckedAt}
use Rattle.px_rules.proofs.Checked.{leads_checked}
use Rattle.px_arena.proofs.Places.{input_denotes, denotes_one}
use Rattle.px_arena.proofs.Replaces.{placed}
use Rattle.px_arena.proofs.Runs.{grown_denotes, runs_join, run_list}
use Rattle.px_arena.proofs.Measure.{weight_at, weight_at_is, denoted_within}

-- what a run makes of the tree of its own place
pub record RunTo (Rewrite : Tree → Tree → Type 0) (new : List AExpr) (n : ℕ) (t : Tree) (r : ℕ) : Type 0 where
  pub tree : Tree
  pub denotes : Denotes new n tree
  pub lead : LeadsTo Rewrite t tree
  pub bound : weight tree + r ≤ weight t

-- the answer can be put in the place, and then the run goes on and the place weighs less
pub record Turn (Rewrite : Tree → Tree → Type 0) (n : ℕ) (old cur mid : List AExpr) (e : AExpr) (r : ℕ) : Type 0 where
  pub within : n < length mid
  pub inputs : (m : ℕ) → IsIn m (inputs_of e) → m < length mid
  pub apart : (m : ℕ) → IsIn m (inputs_of e) → Reaches mid m n → ⊥
  pub runs : Runs Rewrite n old (set mid n e) (r + 1)
  pub falls : weight_at (set mid n e) n < weight_at cur n

module _ (Rewrite : Tree → Tree → Type 0) (less : (t t' : Tree) → Rewrite t t' → weight t' < weight t) where
  pub run_one : (n : ℕ) (old new : List AExpr) (r : ℕ) (t : Tree) → Runs Rewrite n old new r → Denotes old n t → RunTo Rewrite new n t r
  run_one n old new r t run d =
      let all = run_list Rewrite less n old new r run (n ∷ []) (more t none) n (d, tt) first here in
      go all.trees all.denote all.reach all.bound
    where
      go : (us : Trees) → DenoteAll new (n ∷ []) us → AllReach Rewrite (more t none) us → weights us + r ≤ weights (more t none) → RunTo Rewrite new n t r
      go none ds a le = absurd ds
      go (more u none) ds a le = record { tree = u; denotes = ds.0; lead = a.0; bound = omega (arith, le, weights-more u none, weights-more t none) }
      go (more u (more v vs)) ds a le = absurd ds.1

  pub run_grown : (n : ℕ) (old cur mid : List AExpr) (r : ℕ) → Runs Rewrite n old cur r → IsGrown cur mid → Runs Rewrite n old mid r
  run_grown n old cur mid r run g = runs_join Rewrite n old cur mid r 0 r run (grown g done) (omega arith)

  pub turn :
      (n : ℕ) (old cur mid : List AExpr) (e : AExpr) (r : ℕ) →
      Runs Rewrite n old cur r → IsGrown cur mid → Offers Rewrite cur mid n (Some e) → Turn Rewrite n old cur mid e r
  turn n old cur mid e r run g (t, t', d, rewrite, fits) =
      let (k, us, same, root, ins) = fits.denotes in
      let dm : Denotes mid n t = grown_denotes cur mid n t g d in
      let h : n < length mid = denoted_within mid n t dm in
      let new_is : Denotes (set mid n e) n t' = placed mid n e t' h fits in
      let lt : weight t' < weight t = less t t' rewrite in
      let a : weight_at (set mid n e) n ≡ weight t' = weight_at_is (set mid n e) n t' new_is in
      let b : weight_at cur n ≡ weight t = weight_at_is cur n t d in
      record {
        within = h;
        inputs = λ m i. let (u, du, le) = input_denotes mid (inputs_of e) us m ins i in denoted_within mid m u du;
        apart = fits.apart;
        runs = runs_join Rewrite n old cur (set mid n e) r 1 (r + 1) run (grown g (put n e t t' h here dm rewrite fits done)) refl;
        falls = omega arith;
      }

-- where the rule answered nothing, no pair has the place's tree on its left
pub normal_place :
    (c : Catalog) (Rewrite : Tree → Tree → Type 0) (n : ℕ) (cur mid : List AExpr) →
    IsCheckedAt c cur n → IsGrown cur mid → Offers Rewrite cur mid n None → (t : Tree) → Denotes mid n t → HasNoRewrite Rewrite t
normal_place c Rewrite n cur mid (u, d, ok) g nothing t dt =
    let same : u ≡ t = denotes_one mid n u t (grown_denotes cur mid n u g d) dt in
    subst (λ (z : Tree). HasNoRewrite Rewrite z) same (nothing u d)

module _ (c : Catalog) (context : Context) (Rewrite : Tree → Tree → Type 0) (keeps : KeepsMeaning c context Rewrite) where
  -- a run keeps that its place denotes a checked tree
  pub run_checked : (n : ℕ) (old new : List AExpr) (r : ℕ) → Runs Rewrite n old new r → IsCheckedAt c old n → IsCheckedAt c new n
  run_checked n old new r run (t, d, ok) =
      let to = run_one Rewrite keeps.lighter n old new r t run d in
      (to.tree, to.denotes, leads_checked c context Rewrite keeps t to.tree to.lead ok)

  pub run_within : (n : ℕ) (old new : List AExpr) (r : ℕ) → Runs Rewrite n old new r → IsCheckedAt c old n → n < length new
  run_within n old new r run d = let (t, dt, ok) = run_checked n old new r run d in denoted_within new n t dt
