-- The test of a data type is exact.
use Rattle.std.specs.Prelude.{◌≡◌, Bool, true, false, IsTrue, ◌&&◌, ◌==◌, refl}
use Rattle.std.proofs.Common.{ap, sym}
use Rattle.std.specs.Bool.{Decides}
use Rattle.std.specs.Cmp.{IsEquivalence, IsPartialEquivalence, unsigned_Decides, both_ways, decided, partial_equiv_from_equiv}
use Rattle.px_base.specs.Exact.{same_code, same}
use base.Stored.{Gv, gnil, gnum, gcons, Coded}

both : (p q : Bool) → (p && q) ≡ true → (p ≡ true) × (q ≡ true)
both true true e = (refl, refl)
both true false e = cc
both false q e = cc

pub same_code-is : (a b : Gv) → same_code a b ≡ true → a ≡ b
same_code-is gnil gnil e = refl
same_code-is (gnum m) (gnum n) e = ap gnum ((unsigned_Decides m n).0 e)
same_code-is (gcons a b) (gcons c d) e =
    let h = both (same_code a c) (same_code b d) e in
    let l = same_code-is a c h.0 in
    let r = same_code-is b d h.1 in cc
same_code-is gnil (gnum n) e = cc
same_code-is gnil (gcons c d) e = cc
same_code-is (gnum m) gnil e = cc
same_code-is (gnum m) (gcons c d) e = cc
same_code-is (gcons a b) gnil e = cc
same_code-is (gcons a b) (gnum n) e = cc

pub same_code-refl : (a : Gv) → same_code a a ≡ true
same_code-refl gnil = refl
same_code-refl (gnum m) = (unsigned_Decides m m).1 refl
same_code-refl (gcons a b) = let l = same_code-refl a in let r = same_code-refl b in rw (l, r) refl

module _ {A : Type 0} (c : Coded A) where
  pub same-decides : (x y : A) → Decides (same c x y) (x ≡ y)
  unfolding same
  same-decides x y = (λ e. c.inj x y (same_code-is (c.code x) (c.code y) e), λ e. rw e (same_code-refl (c.code y)))

  -- the answer of a test that is proved to be exact
  pub same-answers : (r : Bool) (x y : A) → (IsTrue r → x ≡ y) → (x ≡ y → IsTrue r) → r ≡ same c x y
  same-answers true x y to from = sym ((same-decides x y).1 (to refl))
  same-answers false x y to from = both_ways false (same c x y) (λ e. cc) (λ e. from ((same-decides x y).0 e))

  pub same-equivalence : IsEquivalence (same c)
  same-equivalence = decided (same c) same-decides

  pub same-partial : IsPartialEquivalence (same c)
  same-partial = partial_equiv_from_equiv same-equivalence
