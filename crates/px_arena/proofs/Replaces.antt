-- What a replacement in the arena makes of the trees.
use Rattle.std.proofs.Common.{◌≡◌, ◌≢◌, ℕ, zero, suc, ◌≤◌, ◌<◌, List, [], ◌∷◌, ◌++◌, length, Some, set, refl, sym, ◌∙◌, ap, subst, arith, ◌⊎◌, inl, inr}
use Rattle.std.specs.List.{slice_get}
use Rattle.std.proofs.lemmas.Option.{same_Some}
use Rattle.std.proofs.lemmas.Bool.{cases_eq}
use Rattle.px_arena.specs.declared.node.AExpr.{AExpr}
use Rattle.px_expr.specs.Tree.{Tree, tree, Trees, none, more}
use Rattle.px_meaning.specs.Rewriting.{Replaced, ReplacedAll, there, inside, ended, both}
use Rattle.px_meaning.specs.Weight.{weight, weights}
use Rattle.px_arena.specs.Denotes.{root_of, inputs_of, Denotes, DenoteAll, IsIn, first, later, Reaches, here, below, IsGrown}
use Rattle.px_arena.specs.Runs.{Fits}
use Rattle.px_arena.proofs.Weights.{weigh_rises, weigh_rises_le, weights-more}
use Rattle.px_arena.proofs.Places.{denotes_one, denotes_kept, denote_all_kept}

pub get_set_same : (items : List AExpr) (p : ℕ) (e : AExpr) → p < length items → slice_get (set items p e) p ≡ Some e
get_set_same [] p e h = absurd (omega arith)
get_set_same (x ∷ xs) zero e h = refl
get_set_same (x ∷ xs) (suc p) e h = get_set_same xs p e (omega arith)

pub get_set_other : (items : List AExpr) (p q : ℕ) (e : AExpr) → q ≢ p → slice_get (set items p e) q ≡ slice_get items q
get_set_other [] p q e ne = refl
get_set_other (x ∷ xs) zero zero e ne = absurd (ne refl)
get_set_other (x ∷ xs) zero (suc q) e ne = refl
get_set_other (x ∷ xs) (suc p) zero e ne = refl
get_set_other (x ∷ xs) (suc p) (suc q) e ne = get_set_other xs p q e (λ h. ne (ap suc h))

-- a place that does not reach the replaced one denotes what it did
pub not_reached :
    (items : List AExpr) (p : ℕ) (e : AExpr) (n : ℕ) (u : Tree) →
    (Reaches items n p → ⊥) → Denotes items n u → Denotes (set items p e) n u
not_reached items p e n u apart d =
    denotes_kept items (set items p e) n u
    (record { at = λ q x r at. get_set_other items p q e (λ same. apart (subst (λ (z : ℕ). Reaches items n z) same r)) ∙ at }) d

-- the replaced place denotes the new tree
pub placed :
    (items : List AExpr) (p : ℕ) (e : AExpr) (t' : Tree) →
    p < length items → Fits items p e t' → Denotes (set items p e) p t'
placed items p e t' h fits =
    let (k, us, same, root, ins) = fits.denotes in
    let new : Denotes (set items p e) p (tree k us) = (
      e,
      get_set_same items p e h,
      root,
      denote_all_kept items (set items p e) (inputs_of e) us
          (λ m i. record { at = λ q x r at. get_set_other items p q e (λ s. fits.apart m i (subst (λ (z : ℕ). Reaches items m z) s r)) ∙ at })
          ins,
    ) in
    subst (λ (z : Tree). Denotes (set items p e) p z) (sym same) new

-- from a place that is not p, p is reached through an input
pub through_input :
    (items : List AExpr) (n p : ℕ) (x : AExpr) → (n ≡ p → ⊥) → slice_get items n ≡ Some x → Reaches items n p →
    (m : ℕ) × IsIn m (inputs_of x) × Reaches items m p
through_input items n _ x ne at here = absurd (ne refl)
through_input items n p x ne at (below {m} y at' i r) =
    let e : y ≡ x = same_Some y x (sym at' ∙ at) in
    (m, subst (λ (z : AExpr). IsIn m (inputs_of z)) e i, r)

pub is_in_cases : (m n : ℕ) (ns : List ℕ) → IsIn m (n ∷ ns) → (m ≡ n) ⊎ IsIn m ns
is_in_cases m _ ns first = inl refl
is_in_cases m n ns (later i) = inr i

-- what a replacement makes of the tree u of the place n
pub record Becomes (items : List AExpr) (p : ℕ) (e : AExpr) (t t' : Tree) (n : ℕ) (u : Tree) : Type 0 where
  pub new : Tree
  pub denotes : Denotes (set items p e) n new
  pub replaced : Replaced t t' u new
  pub no_heavier : weight t' < weight t → weight new ≤ weight u
  pub lighter : weight t' < weight t → Reaches items n p → weight new < weight u

pub record BecomeAll (items : List AExpr) (p : ℕ) (e : AExpr) (t t' : Tree) (ns : List ℕ) (us : Trees) : Type 0 where
  pub new : Trees
  pub denote : DenoteAll (set items p e) ns new
  pub replaced : ReplacedAll t t' us new
  pub no_heavier : weight t' < weight t → weights new ≤ weights us
  pub lighter : weight t' < weight t → (m : ℕ) → IsIn m ns → Reaches items m p → weights new < weights us

module _ (items : List AExpr) (p : ℕ) (e : AExpr) (t t' : Tree)
    (old_is : Denotes items p t) (new_is : Denotes (set items p e) p t') where
  at_place : (n : ℕ) (u : Tree) → n ≡ p → Denotes items n u → Becomes items p e t t' n u
  at_place n u same d =
      let dp : Denotes items p u = subst (λ (z : ℕ). Denotes items z u) same d in
      let tu : t ≡ u = denotes_one items p t u old_is dp in
      let w : weight t ≡ weight u = ap weight tu in
      record {
        new = t';
        denotes = subst (λ (z : ℕ). Denotes (set items p e) z t') (sym same) new_is;
        replaced = subst (λ (z : Tree). Replaced t t' z t') tu there;
        no_heavier = λ less. omega arith;
        lighter = λ less r. omega arith;
      }

  mutual
    pub replaced_one : (n : ℕ) (u : Tree) → Denotes items n u → Becomes items p e t t' n u
    replaced_one n (tree k us) (x, at, root, ins) =
        elim (cases_eq n p) [
          | inl same ↦ at_place n (tree k us) same (x, at, root, ins)
          | inr ne ↦
              let all = replaced_all (inputs_of x) us ins in
              record {
                new = tree k all.new;
                denotes = (x, get_set_other items p n e ne ∙ at, root, all.denote);
                replaced = inside all.replaced;
                no_heavier = λ less. weigh_rises_le k _ _ (all.no_heavier less);
                lighter = λ less r.
                    let (m, i, rm) = through_input items n p x ne at r in
                    weigh_rises k _ _ (all.lighter less m i rm);
              }
        ]

    pub replaced_all : (ns : List ℕ) (us : Trees) → DenoteAll items ns us → BecomeAll items p e t t' ns us
    replaced_all [] none h =
        record { new = none; denote = tt; replaced = ended; no_heavier = λ less. omega arith; lighter = λ less m i r. elim i [ ] }
    replaced_all [] (more u us) h = absurd h
    replaced_all (n ∷ ns) none h = absurd h
    replaced_all (n ∷ ns) (more u us) (d, ds) =
        let one = replaced_one n u d in
        let all = replaced_all ns us ds in
        record {
          new = more one.new all.new;
          denote = (one.denotes, all.denote);
          replaced = both one.replaced all.replaced;
          no_heavier = λ less.
              let a : weight one.new ≤ weight u = one.no_heavier less in
              let b : weights all.new ≤ weights us = all.no_heavier less in
              omega (arith, weights-more u us, weights-more one.new all.new);
          lighter = λ less m i r.
              let a : weight one.new ≤ weight u = one.no_heavier less in
              let b : weights all.new ≤ weights us = all.no_heavier less in
              elim (is_in_cases m n ns i) [
                | inl same ↦
                    let c : weight one.new < weight u = one.lighter less (subst (λ (z : ℕ). Reaches items z p) same r) in
                    omega (arith, weights-more u us, weights-more one.new all.new)
                | inr j ↦
                    let c : weights all.new < weights us = all.lighter less m j r in
                    omega (arith, weights-more u us, weights-more one.new all.new)
              ];
        }

-- one more node leaves the others
pub grown_by_one : (items : List AExpr) (e : AExpr) → IsGrown items (items ++ e ∷ [])
grown_by_one items e = record { at = λ p x h at. go items p x at }
  where
    go : (xs : List AExpr) (p : ℕ) (x : AExpr) → slice_get xs p ≡ Some x → slice_get (xs ++ e ∷ []) p ≡ Some x
    go [] p x at = cc
    go (y ∷ ys) zero x at = at
    go (y ∷ ys) (suc p) x at = go ys p x at

pub get_added : (items : List AExpr) (e : AExpr) → slice_get (items ++ e ∷ []) (length items) ≡ Some e
get_added [] e = refl
get_added (y ∷ ys) e = get_added ys e

-- where the item fits, each place denotes its tree with the old subtree replaced
pub list_replaced :
    (items : List AExpr) (p : ℕ) (e : AExpr) (t t' : Tree) → p < length items → Denotes items p t → Fits items p e t' →
    (ns : List ℕ) (us : Trees) → DenoteAll items ns us → (vs : Trees) × DenoteAll (set items p e) ns vs × ReplacedAll t t' us vs
list_replaced items p e t t' h d fits ns us ds =
    let all = replaced_all items p e t t' d (placed items p e t' h fits) ns us ds in
    (all.new, all.denote, all.replaced)

-- the added node denotes its root over what its inputs denote
pub added_denotes :
    (old new : List AExpr) (n : ℕ) (e : AExpr) (us : Trees) →
    n ≡ length old → new ≡ old ++ e ∷ [] → DenoteAll old (inputs_of e) us → Denotes new n (tree (root_of e) us)
added_denotes old new n e us is_next is_new ds =
    let whole : Denotes (old ++ e ∷ []) (length old) (tree (root_of e) us) = (
      e,
      get_added old e,
      refl,
      denote_all_kept old (old ++ e ∷ []) (inputs_of e) us (λ m i. record { at = λ p x r at. (grown_by_one old e).at p x tt at }) ds,
    ) in
    let placed : Denotes new (length old) (tree (root_of e) us) = subst (λ (z : List AExpr). Denotes z (length old) (tree (root_of e) us)) (sym is_new) whole in
    subst (λ (z : ℕ). Denotes new z (tree (root_of e) us)) (sym is_next) placed
