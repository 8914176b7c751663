-- What a run of the arena makes of what places denote.
use Rattle.std.proofs.Common.{◌≡◌, ◌≢◌, ℕ, suc, ◌+◌, ◌≤◌, ◌<◌, List, Some, set, refl, sym, ◌∙◌, ap, subst, arith, inl, inr}
use Rattle.std.specs.List.{slice_get}
use Rattle.std.proofs.lemmas.Bool.{cases_eq}
use Rattle.px_arena.specs.declared.node.AExpr.{AExpr}
use Rattle.px_expr.specs.Tree.{Tree, Trees}
use Rattle.px_meaning.specs.Rewriting.{unmoved, moved}
use Rattle.px_meaning.specs.Weight.{weight, weights}
use Rattle.px_arena.specs.Denotes.{inputs_of, Denotes, DenoteAll, IsIn, Reaches, here, below, IsGrown}
use Rattle.px_arena.specs.Runs.{IsRewritten, ListRuns, Runs, done, grown, put}
use Rattle.px_arena.proofs.Places.{denotes_kept, denote_all_kept, input_denotes, reached_denotes, no_cycle}
use Rattle.px_meaning.proofs.Leads.{AllReach-stays, AllReach-joins, AllReach-replaced, Moves-join}
use Rattle.px_arena.proofs.Replaces.{get_set_other, placed, replaced_one, replaced_all}

pub grown_denotes : (old new : List AExpr) (n : ℕ) (t : Tree) → IsGrown old new → Denotes old n t → Denotes new n t
grown_denotes old new n t g d = denotes_kept old new n t (record { at = λ p x r at. g.at p x tt at }) d

pub grown_denote_all : (old new : List AExpr) (ns : List ℕ) (us : Trees) → IsGrown old new → DenoteAll old ns us → DenoteAll new ns us
grown_denote_all old new ns us g d = denote_all_kept old new ns us (λ m i. record { at = λ p x r at. g.at p x tt at }) d

pub grown_reaches : (old new : List AExpr) (n p : ℕ) → IsGrown old new → Reaches old n p → Reaches new n p
grown_reaches old new n _ g here = here
grown_reaches old new n p g (below {m} x at i r) = below x (g.at n x tt at) i (grown_reaches old new m p g r)

pub reaches_join : (items : List AExpr) (n m p : ℕ) → Reaches items n m → Reaches items m p → Reaches items n p
reaches_join items n _ p here s = s
reaches_join items n m p (below {m = o} x at i r) s = below x at i (reaches_join items o m p r s)

-- a place that n and p reach from each other is one place
pub reached_both_ways :
    (items : List AExpr) (n p : ℕ) (t : Tree) → Denotes items n t → Reaches items n p → Reaches items p n → n ≡ p
reached_both_ways items n _ t d here s = refl
reached_both_ways items n p t d (below {m} x at i r) s = absurd (no_cycle items n m t x d at i (reaches_join items m p n r s))

-- a path to n stays, where a place that n reaches is replaced
pub put_reaches :
    (items : List AExpr) (p : ℕ) (e : AExpr) (m n : ℕ) (u : Tree) →
    Denotes items n u → Reaches items n p → Reaches items m n → Reaches (set items p e) m n
put_reaches items p e m _ u d np here = here
put_reaches items p e m n u d np (below {m = o} x at i r) =
    elim (cases_eq m p) [
      | inl same ↦
          let pn : Reaches items p n = subst (λ (z : ℕ). Reaches items z n) same (below x at i r) in
          let one : n ≡ p = reached_both_ways items n p u d np pn in
          let whole : n ≡ m = one ∙ sym same in
          subst (λ (z : ℕ). Reaches (set items p e) m z) (sym whole) here
      | inr ne ↦ below x (get_set_other items p m e ne ∙ at) i (put_reaches items p e o n u d np r)
    ]

pub runs_join :
    (Rewrite : Tree → Tree → Type 0) (n : ℕ) (old mid new : List AExpr) (r s q : ℕ) →
    Runs Rewrite n old mid r → Runs Rewrite n mid new s → q ≡ r + s → Runs Rewrite n old new q
runs_join Rewrite n old _ new _ s q done b e = let f : s ≡ q = omega arith in subst (λ (z : ℕ). Runs Rewrite n old new z) f b
runs_join Rewrite n old mid new r s q (grown {mid = via} g a) b e = grown g (runs_join Rewrite n via mid new r s q a b e)
runs_join Rewrite n old mid new _ s q (put {r} p i t t' h np d rewrite fits a) b e =
    let f : suc (r + s) ≡ q = omega arith in
    subst (λ (z : ℕ). Runs Rewrite n old new z) f (put p i t t' h np d rewrite fits (runs_join Rewrite n (set old p i) mid new r s (r + s) a b refl))

-- a run without a replacement has grown the arena
pub run_of_none :
    (Rewrite : Tree → Tree → Type 0) (n : ℕ) (old new : List AExpr) (r : ℕ) → Runs Rewrite n old new r → r ≡ 0 → IsGrown old new
run_of_none Rewrite n old _ _ done e = record { at = λ p x u at. at }
run_of_none Rewrite n old new r (grown {mid} g a) e =
    let h : IsGrown mid new = run_of_none Rewrite n mid new r a e in
    record { at = λ p x u at. h.at p x tt (g.at p x tt at) }
run_of_none Rewrite n old new _ (put {r} p i t t' h np d rewrite fits a) e = absurd (omega arith)

module _ (Rewrite : Tree → Tree → Type 0) (less : (t t' : Tree) → Rewrite t t' → weight t' < weight t) where
  pub run_list :
      (n : ℕ) (old new : List AExpr) (r : ℕ) → Runs Rewrite n old new r →
      (ns : List ℕ) (us : Trees) (m : ℕ) → DenoteAll old ns us → IsIn m ns → Reaches old m n → IsRewritten Rewrite new ns us r
  run_list n old _ _ done ns us m ds i mn =
      record { trees = us; denote = ds; moves = unmoved; reach = AllReach-stays Rewrite us; bound = omega arith }
  run_list n old new r (grown {mid} g a) ns us m ds i mn =
      run_list n mid new r a ns us m (grown_denote_all old mid ns us g ds) i (grown_reaches old mid m n g mn)
  run_list n old new _ (put {r} p e t t' h np d rewrite fits a) ns us m ds i mn =
      let (v, dv, le) = input_denotes old ns us m ds i in
      let (u, du, le2) = reached_denotes old m n v mn dv in
      let new_is : Denotes (set old p e) p t' = placed old p e t' h fits in
      let lt : weight t' < weight t = less t t' rewrite in
      let all = replaced_all old p e t t' d new_is ns us ds in
      let mn2 : Reaches (set old p e) m n = put_reaches old p e m n u du np mn in
      let rest = run_list n (set old p e) new r a ns all.new m all.denote i mn2 in
      let falls : weights all.new < weights us = all.lighter lt m i (reaches_join old m n p mn np) in
      let bound : weights rest.trees + r ≤ weights all.new = rest.bound in
      record {
        trees = rest.trees;
        denote = rest.denote;
        moves = moved t t' rewrite all.replaced (λ same. let w : weights us ≡ weights all.new = ap weights same in omega arith) rest.moves;
        reach = AllReach-joins Rewrite us all.new rest.trees (AllReach-replaced Rewrite t t' rewrite us all.new all.replaced) rest.reach;
        bound = omega arith;
      }

  -- a run at an input of n is a run at n, and leaves n's own node
  pub run_of_input :
      (n m : ℕ) (x : AExpr) (old new : List AExpr) (r : ℕ) → IsIn m (inputs_of x) → Runs Rewrite m old new r →
      (u : Tree) → Denotes old n u → slice_get old n ≡ Some x → Runs Rewrite n old new r × (slice_get new n ≡ Some x)
  run_of_input n m x old _ _ i done u d at = (done, at)
  run_of_input n m x old new r i (grown {mid} g a) u d at =
      let (run, after) = run_of_input n m x mid new r i a u (grown_denotes old mid n u g d) (g.at n x tt at) in
      (grown g run, after)
  run_of_input n m x old new _ i (put {r} p e t t' h mp dp rewrite fits a) u d at =
      let ne : n ≢ p = λ same. no_cycle old n m u x d at i (subst (λ (z : ℕ). Reaches old m z) (sym same) mp) in
      let new_is : Denotes (set old p e) p t' = placed old p e t' h fits in
      let one = replaced_one old p e t t' dp new_is n u d in
      let (run, after) = run_of_input n m x (set old p e) new r i a one.new one.denotes (get_set_other old p n e ne ∙ at) in
      (put p e t t' h (below x at i mp) dp rewrite fits run, after)

pub list_runs_none : (Rewrite : Tree → Tree → Type 0) (ns : List ℕ) (items : List AExpr) → ListRuns Rewrite ns items items 0
list_runs_none Rewrite ns items us ds = record { trees = us; denote = ds; moves = unmoved; reach = AllReach-stays Rewrite us; bound = omega arith }

pub list_runs_join :
    (Rewrite : Tree → Tree → Type 0) (ns : List ℕ) (old mid new : List AExpr) (r s : ℕ) →
    ListRuns Rewrite ns old mid r → ListRuns Rewrite ns mid new s → ListRuns Rewrite ns old new (r + s)
list_runs_join Rewrite ns old mid new r s a b us ds =
    let x = a us ds in
    let y = b x.trees x.denote in
    let p : weights x.trees + r ≤ weights us = x.bound in
    let q : weights y.trees + s ≤ weights x.trees = y.bound in
    record {
      trees = y.trees;
      denote = y.denote;
      moves = Moves-join Rewrite us x.trees y.trees r s (r + s) x.moves y.moves refl;
      reach = AllReach-joins Rewrite us x.trees y.trees x.reach y.reach;
      bound = omega arith;
    }
