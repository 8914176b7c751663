-- What a place denotes, and what of it stays.
use Rattle.std.proofs.Common.{◌≡◌, ℕ, ◌≤◌, ◌<◌, List, [], ◌∷◌, Some, refl, sym, ◌∙◌, ap, subst, arith}
use Rattle.std.specs.List.{slice_get}
use Rattle.std.proofs.lemmas.Option.{same_Some}
use Rattle.px_arena.specs.declared.node.AExpr.{AExpr}
use Rattle.px_expr.specs.Tree.{Tree, tree, Trees, none, more}
use Rattle.px_meaning.specs.Weight.{weight, weights}
use Rattle.px_arena.specs.Denotes.{root_of, inputs_of, Denotes, DenoteAll, IsIn, first, later, Reaches, here, below, IsKept}
use Rattle.px_arena.proofs.Weights.{weigh, weigh_above, weights-more}

mutual
  -- a place denotes at most one tree
  pub denotes_one : (items : List AExpr) (n : ℕ) (t u : Tree) → Denotes items n t → Denotes items n u → t ≡ u
  denotes_one items n (tree k us) (tree l vs) (x, at, root, ins) (y, at', root', ins') =
      let e : x ≡ y = same_Some x y (sym at ∙ at') in
      let ins2 : DenoteAll items (inputs_of x) vs = subst (λ (z : AExpr). DenoteAll items (inputs_of z) vs) (sym e) ins' in
      let h : us ≡ vs = denote_all_one items (inputs_of x) us vs ins ins2 in
      let r : k ≡ l = sym root ∙ ap root_of e ∙ root' in
      cc

  pub denote_all_one : (items : List AExpr) (ns : List ℕ) (us vs : Trees) → DenoteAll items ns us → DenoteAll items ns vs → us ≡ vs
  denote_all_one items [] none none h h' = refl
  denote_all_one items [] none (more v vs) h h' = absurd h'
  denote_all_one items [] (more u us) vs h h' = absurd h
  denote_all_one items (n ∷ ns) none vs h h' = absurd h
  denote_all_one items (n ∷ ns) (more u us) none h h' = absurd h'
  denote_all_one items (n ∷ ns) (more u us) (more v vs) (d, ds) (d', ds') =
      let e : u ≡ v = denotes_one items n u v d d' in
      let es : us ≡ vs = denote_all_one items ns us vs ds ds' in
      cc

mutual
  -- what is kept at the places that n reaches keeps what n denotes
  pub denotes_kept : (old new : List AExpr) (n : ℕ) (t : Tree) → IsKept old new (λ p. Reaches old n p) → Denotes old n t → Denotes new n t
  denotes_kept old new n (tree k us) kept (x, at, root, ins) = (
    x,
    kept.at n x here at,
    root,
    denote_all_kept old new (inputs_of x) us
        (λ m i. record { at = λ p y r e. kept.at p y (below x at i r) e })
        ins,
  )

  pub denote_all_kept :
      (old new : List AExpr) (ns : List ℕ) (us : Trees) →
      ((m : ℕ) → IsIn m ns → IsKept old new (λ p. Reaches old m p)) → DenoteAll old ns us → DenoteAll new ns us
  denote_all_kept old new [] none kept h = tt
  denote_all_kept old new [] (more u us) kept h = absurd h
  denote_all_kept old new (n ∷ ns) none kept h = absurd h
  denote_all_kept old new (n ∷ ns) (more u us) kept (d, ds) =
      (denotes_kept old new n u (kept n first) d, denote_all_kept old new ns us (λ m i. kept m (later i)) ds)

-- an input of a denoted list denotes a tree that weighs no more than the list
pub input_denotes :
    (items : List AExpr) (ns : List ℕ) (us : Trees) (m : ℕ) →
    DenoteAll items ns us → IsIn m ns → (u : Tree) × Denotes items m u × (weight u ≤ weights us)
input_denotes items [] us m h i = elim i [ ]
input_denotes items (n ∷ ns) none m h i = absurd h
input_denotes items (n ∷ ns) (more u us) _ (d, ds) first = (u, d, omega (arith, weights-more u us))
input_denotes items (n ∷ ns) (more u us) m (d, ds) (later i) =
    let (v, e, le) = input_denotes items ns us m ds i in
    (v, e, omega (arith, weights-more u us))

-- a reached place denotes a tree that weighs no more
pub reached_denotes :
    (items : List AExpr) (n p : ℕ) (t : Tree) →
    Reaches items n p → Denotes items n t → (s : Tree) × Denotes items p s × (weight s ≤ weight t)
reached_denotes items n _ t here d = (t, d, omega arith)
reached_denotes items n p (tree k us) (below {m} x at i r) (y, at', root, ins) =
    let e : y ≡ x = same_Some y x (sym at' ∙ at) in
    let ins2 : DenoteAll items (inputs_of x) us = subst (λ (z : AExpr). DenoteAll items (inputs_of z) us) e ins in
    let (u, du, le) = input_denotes items (inputs_of x) us m ins2 i in
    let (s, ds, le2) = reached_denotes items m p u r du in
    let above : weights us < weigh k (weights us) = weigh_above k (weights us) in
    (s, ds, omega arith)

-- nothing below a place reaches it
pub no_cycle :
    (items : List AExpr) (n m : ℕ) (t : Tree) (x : AExpr) →
    Denotes items n t → slice_get items n ≡ Some x → IsIn m (inputs_of x) → Reaches items m n → ⊥
no_cycle items n m (tree k us) x (y, at', root, ins) at i r =
    let e : y ≡ x = same_Some y x (sym at' ∙ at) in
    let ins2 : DenoteAll items (inputs_of x) us = subst (λ (z : AExpr). DenoteAll items (inputs_of z) us) e ins in
    let (u, du, le) = input_denotes items (inputs_of x) us m ins2 i in
    let (s, ds, le2) = reached_denotes items m n u r du in
    let same : s ≡ tree k us = denotes_one items n s (tree k us) ds (y, at', root, ins) in
    let weights_same : weight s ≡ weigh k (weights us) = ap weight same in
    let above : weights us < weigh k (weights us) = weigh_above k (weights us) in
    omega arith
