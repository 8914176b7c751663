-- What a place that is read says of the tree that it denotes, and where a copy of a node fits.
use Rattle.std.proofs.Common.{◌≡◌, ◌≢◌, ℕ, Some, List, refl, sym, ◌∙◌, ap, subst}
use Rattle.std.specs.List.{slice_get}
use Rattle.std.proofs.lemmas.Option.{same_Some}
use Rattle.px_expr.specs.Tree.{Node as Root, Tree, tree, Trees}
use Rattle.px_arena.specs.declared.node.AExpr.{AExpr}
use Rattle.px_arena.specs.Denotes.{root_of, inputs_of, Denotes, DenoteAll, IsIn, Reaches, here, below}
use Rattle.px_arena.specs.Runs.{Fits}
use Rattle.px_arena.proofs.Places.{no_cycle}
use Rattle.px_arena.proofs.Runs.{reaches_join}

-- the parts of what a place denotes, at the node that it holds
pub record Holds (items : List AExpr) (x : AExpr) (t : Tree) : Type 0 where
  pub inputs : Trees
  pub whole : t ≡ tree (root_of x) inputs
  pub denote : DenoteAll items (inputs_of x) inputs

pub holds : (items : List AExpr) (n : ℕ) (x : AExpr) (t : Tree) → Denotes items n t → slice_get items n ≡ Some x → Holds items x t
holds items n x (tree k us) (y, at', root, ins) at =
    let e : y ≡ x = same_Some y x (sym at' ∙ at) in
    record {
      inputs = us;
      whole = ap (λ (z : Root). tree z us) (sym root ∙ ap root_of e);
      denote = subst (λ (z : AExpr). DenoteAll items (inputs_of z) us) e ins;
    }

-- what an input of n reaches does not reach n
pub apart_below :
    (items : List AExpr) (n a m : ℕ) (t : Tree) (x : AExpr) →
    Denotes items n t → slice_get items n ≡ Some x → IsIn a (inputs_of x) → Reaches items a m → Reaches items m n → ⊥
apart_below items n a m t x d at i r s = no_cycle items n a t x d at i (reaches_join items a m n r s)

-- a copy of a place strictly below n fits at n, as its tree
pub copy_fits :
    (items : List AExpr) (n a m : ℕ) (t u : Tree) (x e : AExpr) →
    Denotes items n t → slice_get items n ≡ Some x → IsIn a (inputs_of x) → Reaches items a m →
    Denotes items m u → slice_get items m ≡ Some e → Fits items n e u
copy_fits items n a m t u x e d at i r dm atm =
    let h = holds items m e u dm atm in
    record {
      denotes = (root_of e, h.inputs, h.whole, refl, h.denote);
      apart = λ o j s. apart_below items n a o t x d at i (reaches_join items a m o r (below e atm j here)) s;
    }

-- a new place whose inputs stand below an input of n does not reach n
pub fresh_apart :
    (items : List AExpr) (n a f : ℕ) (t : Tree) (x y : AExpr) →
    Denotes items n t → slice_get items n ≡ Some x → IsIn a (inputs_of x) →
    f ≢ n → slice_get items f ≡ Some y → ((m : ℕ) → IsIn m (inputs_of y) → Reaches items a m) → Reaches items f n → ⊥
fresh_apart items n a _ t x y d at i ne aty all here = ne refl
fresh_apart items n a f t x y d at i ne aty all (below {m} z atz j r) =
    let e : z ≡ y = same_Some z y (sym atz ∙ aty) in
    apart_below items n a m t x d at i (all m (subst (λ (w : AExpr). IsIn m (inputs_of w)) e j)) r

-- a node whose inputs stand below an input of n fits at n
pub below_fits :
    (items : List AExpr) (n a : ℕ) (t : Tree) (x e : AExpr) (k : Root) (us : Trees) →
    Denotes items n t → slice_get items n ≡ Some x → IsIn a (inputs_of x) →
    root_of e ≡ k → DenoteAll items (inputs_of e) us → ((m : ℕ) → IsIn m (inputs_of e) → Reaches items a m) → Fits items n e (tree k us)
below_fits items n a t x e k us d at i r ds all =
    record {
      denotes = (k, us, refl, r, ds);
      apart = λ m j s. apart_below items n a m t x d at i (all m j) s;
    }
