-- Lists of places, and what may be missing.
use Rattle.std.proofs.Common.{◌≡◌, ◌⊎◌, inl, inr, ◌+◌, ◌<◌, ◌≤◌, ◌++◌, ℕ, zero, suc, List, [], ◌∷◌, length, take, get_or, Option, Some, None, false, refl, sym, ap, subst, arith}
use Rattle.std.specs.Prelude.{IsSome, is_some, slice_get}
use Rattle.std.proofs.lemmas.Option.{same_Some}
use Rattle.px_arena.specs.declared.node.Node.{Node}
use Rattle.px_arena.specs.Denotes.{IsIn, first, later}
use Rattle.px_rules.specs.Plan.{places}
use Rattle.px_eval.proofs.Columns.{take_one}

pub some_of : {A : Type 0} (o : Option A) → IsSome o → (a : A) × (o ≡ Some a)
some_of None h = cc
some_of (Some a) h = (a, refl)

pub is_some_of : {A : Type 0} (o : Option A) (a : A) → o ≡ Some a → IsSome o
is_some_of o a e = ap is_some e

pub empty_of : {A : Type 0} (o : Option A) → is_some o ≡ false → o ≡ None
empty_of None h = refl
empty_of (Some v) h = cc

pub not_both : {A : Type 0} (o : Option A) → o ≡ None → IsSome o → ⊥
not_both o e h = cc

pub none_or_some : {A : Type 0} (o : Option A) → (o ≡ None) ⊎ IsSome o
none_or_some None = inl refl
none_or_some (Some a) = inr refl

pub nothing_read : {A : Type 0} (o : Option A) → (IsSome o → ⊥) → o ≡ None
nothing_read None h = refl
nothing_read (Some a) h = absurd (h refl)

pub some_within : {A : Type 0} (xs : List (Option A)) (i : ℕ) → IsSome (get_or xs i None) → i < length xs
some_within [] i h = cc
some_within (x ∷ xs) zero h = omega arith
some_within (x ∷ xs) (suc i) h = let w = some_within xs i h in omega arith

-- a place of a list has an index, and what stands at an index is one of the list

pub at_in : (ns : List ℕ) (k m : ℕ) → slice_get ns k ≡ Some m → IsIn m ns
at_in [] k m e = cc
at_in (n ∷ ns) zero m e = subst (λ (z : ℕ). IsIn z (n ∷ ns)) (same_Some n m e) first
at_in (n ∷ ns) (suc k) m e = later (at_in ns k m e)

pub record IsAt (ns : List ℕ) (m : ℕ) : Type 0 where
  pub index : ℕ
  pub within : index < length ns
  pub at : slice_get ns index ≡ Some m

pub in_at : (ns : List ℕ) (m : ℕ) → IsIn m ns → IsAt ns m
in_at [] m i = elim i [ ]
in_at (_ ∷ ns) m first = record { index = zero; within = omega arith; at = refl }
in_at (n ∷ ns) m (later i) = let h = in_at ns m i in let w : h.index < length ns = h.within in record { index = suc h.index; within = omega arith; at = h.at }

pub in_left : (p : ℕ) (ps qs : List ℕ) → IsIn p ps → IsIn p (ps ++ qs)
in_left p [] qs i = elim i [ ]
in_left p (_ ∷ ps) qs first = first
in_left p (m ∷ ps) qs (later i) = later (in_left p ps qs i)

pub in_last : (ns : List ℕ) (m : ℕ) → IsIn m (ns ++ m ∷ [])
in_last [] m = first
in_last (n ∷ ns) m = later (in_last ns m)

in_one : (n m : ℕ) → IsIn m (n ∷ []) → m ≡ n
in_one n _ first = refl
in_one n m (later i) = elim i [ ]

pub in_more : (ns : List ℕ) (n m : ℕ) → IsIn m (ns ++ n ∷ []) → IsIn m ns ⊎ (m ≡ n)
in_more [] n m i = inr (in_one n m i)
in_more (_ ∷ ns) n m first = inl first
in_more (k ∷ ns) n m (later i) = elim (in_more ns n m i) [
  | inl h ↦ inl (later h)
  | inr h ↦ inr h
]

-- what stands at an index of a list with one more place
pub at_more : (ns : List ℕ) (n k m : ℕ) → slice_get (ns ++ n ∷ []) k ≡ Some m → (slice_get ns k ≡ Some m) ⊎ ((k ≡ length ns) × (m ≡ n))
at_more [] n zero m e = inr (refl, sym (same_Some n m e))
at_more [] n (suc k) m e = cc
at_more (p ∷ ns) n zero m e = inl e
at_more (p ∷ ns) n (suc k) m e = elim (at_more ns n k m e) [
  | inl h ↦ inl h
  | inr h ↦ inr (ap suc h.0, h.1)
]

pub in_roots : (roots : List Node) (i : ℕ) (d : Node) → i < length roots → slice_get (places roots) i ≡ Some (get_or roots i d).0
in_roots [] i d h = absurd (omega arith)
in_roots (r ∷ rs) zero d h = refl
in_roots (r ∷ rs) (suc i) d h = in_roots rs i d (omega arith)

pub length_places : (roots : List Node) → length (places roots) ≡ length roots
length_places [] = refl
length_places (r ∷ rs) = let h = length_places rs in omega arith

pub at_left : (ns ms : List ℕ) (k m : ℕ) → slice_get ns k ≡ Some m → slice_get (ns ++ ms) k ≡ Some m
at_left [] ms k m e = cc
at_left (n ∷ ns) ms zero m e = e
at_left (n ∷ ns) ms (suc k) m e = at_left ns ms k m e

pub at_end : (ns : List ℕ) (n k : ℕ) → k ≡ length ns → slice_get (ns ++ n ∷ []) k ≡ Some n
at_end ns n k e = subst (λ (z : ℕ). slice_get (ns ++ n ∷ []) z ≡ Some n) (sym e) (go ns)
  where
    go : (ns : List ℕ) → slice_get (ns ++ n ∷ []) (length ns) ≡ Some n
    go [] = refl
    go (m ∷ ns) = go ns

-- what stands before a position stands before each later one
pub in_longer : (ns : List ℕ) (j k m : ℕ) → j ≤ k → IsIn m (take j ns) → IsIn m (take k ns)
in_longer [] j k m h i = none j i
  where
    none : (j : ℕ) → IsIn m (take j []) → IsIn m (take k [])
    none zero i = elim i [ ]
    none (suc j) i = elim i [ ]
in_longer (n ∷ ns) zero k m h i = elim i [ ]
in_longer (n ∷ ns) (suc j) zero m h i = absurd (omega arith)
in_longer (_ ∷ ns) (suc j) (suc k) m h first = first
in_longer (n ∷ ns) (suc j) (suc k) m h (later i) = later (in_longer ns j k m (omega arith) i)

pub in_next : (ns : List ℕ) (k n : ℕ) → slice_get ns k ≡ Some n → IsIn n (take (k + 1) ns)
in_next ns k n at = subst (λ (z : List ℕ). IsIn n z) (sym (take_one ns k n at)) (in_last (take k ns) n)
