-- The weight of the tree that a place denotes, as a function of the arena and the place.
use Rattle.std.proofs.Common.{◌≡◌, ◌≢◌, ℕ, zero, suc, ◌+◌, ◌≤◌, ◌<◌, max, List, [], ◌∷◌, length, Option, Some, None, refl, ◌∙◌, ap, subst, arith, inl, inr}
use Rattle.std.specs.List.{slice_get}
use Rattle.std.proofs.lemmas.Option.{slice_get_within}
use Rattle.std.proofs.lemmas.Bool.{cases_eq}
use Rattle.px_arena.specs.declared.node.AExpr.{AExpr}
use Rattle.px_expr.specs.Tree.{Node as Root, Tree, tree, Trees, none, more}
use Rattle.px_meaning.specs.Weight.{weight, weights}
use Rattle.px_arena.specs.Denotes.{root_of, inputs_of, Denotes, DenoteAll, IsIn, first, later, Reaches, here, below}
use Rattle.px_arena.proofs.Weights.{weigh, weights-more}
use Rattle.px_arena.proofs.Places.{reached_denotes, no_cycle}

-- the sum of a number for each place
abbrev pub sum_of : (ℕ → ℕ) → List ℕ → ℕ
sum_of w [] = 0
sum_of w (n ∷ ns) = w n + sum_of w ns

abbrev pub weigh_item : (ℕ → ℕ) → Option AExpr → ℕ
weigh_item w None = 0
weigh_item w (Some x) = weigh (root_of x) (sum_of w (inputs_of x))

-- the weight of the tree below n down to a depth
unfoldable pub weight_in : ℕ → List AExpr → ℕ → ℕ
weight_in zero items n = 0
weight_in (suc deep) items n = weigh_item (λ m. weight_in deep items m) (slice_get items n)

unfoldable pub weight_at : List AExpr → ℕ → ℕ
weight_at items n = weight_in (length items) items n

abbrev mutual
  pub depth : Tree → ℕ
  depth (tree k us) = depths us + 1

  pub depths : Trees → ℕ
  depths none = 0
  depths (more u us) = max (depth u) (depths us)

mutual
  unfolding weight_in

  pub weight_in_is : (deep : ℕ) (items : List AExpr) (n : ℕ) (t : Tree) → depth t ≤ deep → Denotes items n t → weight_in deep items n ≡ weight t
  weight_in_is zero items n (tree k us) h d = absurd (omega arith)
  weight_in_is (suc deep) items n (tree k us) h (x, at, root, ins) =
      let a : weigh_item (λ m. weight_in deep items m) (slice_get items n) ≡ weigh (root_of x) (sum_of (λ m. weight_in deep items m) (inputs_of x)) =
      ap (weigh_item (λ m. weight_in deep items m)) at in
      let b : sum_of (λ m. weight_in deep items m) (inputs_of x) ≡ weights us = weights_in_are deep items (inputs_of x) us (omega arith) ins in
      a ∙ ap (λ (z : ℕ). weigh (root_of x) z) b ∙ ap (λ (z : Root). weigh z (weights us)) root

  pub weights_in_are :
      (deep : ℕ) (items : List AExpr) (ns : List ℕ) (us : Trees) → depths us ≤ deep → DenoteAll items ns us → sum_of (λ m. weight_in deep items m) ns ≡ weights us
  weights_in_are deep items [] none h ds = refl
  weights_in_are deep items [] (more u us) h ds = absurd ds
  weights_in_are deep items (n ∷ ns) none h ds = absurd ds
  weights_in_are deep items (n ∷ ns) (more u us) h (d, ds) =
      let a : weight_in deep items n ≡ weight u = weight_in_is deep items n u (omega arith) d in
      let b : sum_of (λ m. weight_in deep items m) ns ≡ weights us = weights_in_are deep items ns us (omega arith) ds in
      omega (arith, weights-more u us)

-- a list without one of its numbers is one shorter and keeps the others
pub record TakenOut (n : ℕ) (ns : List ℕ) : Type 0 where
  pub rest : List ℕ
  pub shorter : length rest + 1 ≡ length ns
  pub keeps : (p : ℕ) → p ≢ n → IsIn p ns → IsIn p rest

pub take_out : (n : ℕ) (ns : List ℕ) → IsIn n ns → TakenOut n ns
take_out n [] i = elim i [ ]
take_out n (_ ∷ ns) first =
    record { rest = ns; shorter = omega arith; keeps = λ p ne i. after p ne i }
  where
    after : (p : ℕ) → p ≢ n → IsIn p (n ∷ ns) → IsIn p ns
    after p ne first = absurd (ne refl)
    after p ne (later i) = i
take_out n (m ∷ ns) (later i) =
    let t = take_out n ns i in
    let s : length t.rest + 1 ≡ length ns = t.shorter in
    record { rest = m ∷ t.rest; shorter = omega arith; keeps = after t }
  where
    after : (t : TakenOut n ns) (p : ℕ) → p ≢ n → IsIn p (m ∷ ns) → IsIn p (m ∷ t.rest)
    after t p ne first = first
    after t p ne (later j) = later (t.keeps p ne j)

-- every place below a number
abbrev pub places_below : ℕ → List ℕ
places_below zero = []
places_below (suc n) = n ∷ places_below n

pub is_below : (n p : ℕ) → p < n → IsIn p (places_below n)
is_below zero p h = absurd (omega arith)
is_below (suc n) p h = elim (cases_eq p n) [
  | inl same ↦ subst (λ (z : ℕ). IsIn p (z ∷ places_below n)) same first
  | inr ne ↦ later (is_below n p (omega arith))
]

pub length-places_below : (n : ℕ) → length (places_below n) ≡ n
length-places_below zero = refl
length-places_below (suc n) = let h = length-places_below n in omega arith

mutual
  -- a tree is no deeper than the places that its place reaches are many
  pub depth_fits :
      (items : List AExpr) (n : ℕ) (t : Tree) (ps : List ℕ) →
      ((p : ℕ) → Reaches items n p → IsIn p ps) → Denotes items n t → depth t ≤ length ps
  depth_fits items n (tree k us) ps all (x, at, root, ins) =
      let out = take_out n ps (all n here) in
      let s : length out.rest + 1 ≡ length ps = out.shorter in
      let h : depths us ≤ length out.rest =
      depths_fit items (inputs_of x) us out.rest
      (λ m i p r. out.keeps p
      (λ same. no_cycle items n m (tree k us) x (x, at, root, ins) at i (subst (λ (z : ℕ). Reaches items m z) same r))
      (all p (below x at i r)))
      ins in
      omega arith

  pub depths_fit :
      (items : List AExpr) (ns : List ℕ) (us : Trees) (ps : List ℕ) →
      ((m : ℕ) → IsIn m ns → (p : ℕ) → Reaches items m p → IsIn p ps) → DenoteAll items ns us → depths us ≤ length ps
  depths_fit items [] none ps all ds = omega arith
  depths_fit items [] (more u us) ps all ds = absurd ds
  depths_fit items (n ∷ ns) none ps all ds = absurd ds
  depths_fit items (n ∷ ns) (more u us) ps all (d, ds) =
      let a : depth u ≤ length ps = depth_fits items n u ps (all n first) d in
      let b : depths us ≤ length ps = depths_fit items ns us ps (λ m i. all m (later i)) ds in
      omega arith

pub denoted_within : (items : List AExpr) (n : ℕ) (t : Tree) → Denotes items n t → n < length items
denoted_within items n (tree k us) (x, at, root, ins) = slice_get_within items n x at

-- a place that denotes a tree has that tree's weight
pub weight_at_is : (items : List AExpr) (n : ℕ) (t : Tree) → Denotes items n t → weight_at items n ≡ weight t
unfolding weight_at
weight_at_is items n t d =
    let deep : depth t ≤ length (places_below (length items)) =
    depth_fits items n t (places_below (length items))
    (λ p r. let (s, ds, le) = reached_denotes items n p t r d in is_below (length items) p (denoted_within items p s ds)) d in
    weight_in_is (length items) items n t (let e = length-places_below (length items) in omega arith) d
