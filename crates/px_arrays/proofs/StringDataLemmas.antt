-- Strings that lie in one buffer.
use Rattle.std.proofs.Common.{◌≡◌, ℕ, ◌-◌, ◌<◌, ◌≤◌, List, [], ◌∷◌, ◌++◌, length, take, drop, get_or, refl, sym, ap, ◌∙◌, subst, zero, suc, inl, inr, arith}
use Rattle.std.specs.Str.{IsCharBoundary, IsUtf8}
use Rattle.std.proofs.lemmas.Bool.{cases_lt}
use Rattle.std.proofs.lemmas.List.{length-append, length-drop, get_or_append_left, get_or_read, take_all, drop_at, take-append-le, drop-append-le}
use Rattle.std.proofs.lemmas.Str.{IsCharBoundary-start, IsCharBoundary-end, IsCharBoundary-at_seam}
use Rattle.px_arrays.specs.StringArrayOf.{strings_in, AreEnds}

-- a place where bytes may be cut stays one when a string follows them
boundary_more : (bytes more : List ℕ) (i : ℕ) → IsUtf8 more → IsCharBoundary bytes i → IsCharBoundary (bytes ++ more) i
boundary_more bytes more i u h =
    elim (cases_lt i (length bytes)) [
      | inl p ↦ (omega (arith, length-append bytes more), λ l e. omega (arith, get_or_append_left bytes more 0 i p, h.1))
      | inr p ↦ let same : length bytes ≡ i = omega (arith, h.0) in subst (IsCharBoundary (bytes ++ more)) same (IsCharBoundary-at_seam (bytes ++ more) bytes more refl u)
    ]

-- a string more, and where it ends
pub ends_push : (bytes more : List ℕ) (start : ℕ) (ends : List ℕ) → IsUtf8 more → AreEnds bytes start ends → AreEnds (bytes ++ more) start (ends ++ length (bytes ++ more) ∷ [])
ends_push bytes more start [] u h = (omega (arith, length-append bytes more), IsCharBoundary-end (bytes ++ more), refl)
ends_push bytes more start (end ∷ ends) u h = (h.0, boundary_more bytes more end u h.1, ends_push bytes more end ends u h.2)

string_kept : (bytes more : List ℕ) (start end : ℕ) → start ≤ end → end ≤ length bytes → take (end - start) (drop start (bytes ++ more)) ≡ take (end - start) (drop start bytes)
string_kept bytes more start end h l =
    ap (take (end - start)) (drop-append-le start bytes more (omega arith))
    ∙ take-append-le (end - start) (drop start bytes) more (omega (arith, length-drop start bytes))

pub strings_push : (bytes more : List ℕ) (start : ℕ) (ends : List ℕ) → AreEnds bytes start ends
    → strings_in (bytes ++ more) start (ends ++ length (bytes ++ more) ∷ []) ≡ strings_in bytes start ends ++ more ∷ []
strings_push bytes more start [] h =
    ap (λ t. t ∷ []) (
    ap (take (length (bytes ++ more) - start)) (drop_at bytes more start (sym h))
    ∙ take_all (length (bytes ++ more) - start) more (omega (arith, length-append bytes more)))
strings_push bytes more start (end ∷ ends) h =
    let here = string_kept bytes more start end h.0 h.1.0 in
    let rest = strings_push bytes more end ends h.2 in
    cc

pub length-strings_in : (bytes : List ℕ) (start : ℕ) (ends : List ℕ) → length (strings_in bytes start ends) ≡ length ends
length-strings_in bytes start [] = refl
length-strings_in bytes start (end ∷ ends) = ap suc (length-strings_in bytes end ends)

-- the string lies from `start` to `end`, and the bytes may be cut at both
pub record IsCut (bytes : List ℕ) (start end : ℕ) (text : List ℕ) : Type 0 where
  pub order : start ≤ end
  pub from : IsCharBoundary bytes start
  pub to : IsCharBoundary bytes end
  pub between : take (end - start) (drop start bytes) ≡ text

cut_at : (bytes : List ℕ) (start : ℕ) (ends : List ℕ) (i : ℕ) → IsCharBoundary bytes start → AreEnds bytes start ends → i < length ends
    → IsCut bytes (get_or (start ∷ ends) i 0) (get_or ends i 0) (get_or (strings_in bytes start ends) i [])
cut_at bytes start [] i b h l = absurd (omega arith)
cut_at bytes start (end ∷ ends) zero b h l = record { order = h.0; from = b; to = h.1; between = refl }
cut_at bytes start (end ∷ ends) (suc i) b h l = cut_at bytes end ends i h.1 h.2 (omega arith)

-- the same of what was read: where string i starts, and where it ends
pub cut_read : {bytes seen : List ℕ} {ends slice : List ℕ} {texts : List (List ℕ)} {i start end : ℕ}
    → IsUtf8 seen → AreEnds bytes 0 ends → strings_in bytes 0 ends ≡ texts → i < length texts → seen ≡ bytes → slice ≡ ends
    → start ≡ get_or (0 ∷ slice) i 0 → end ≡ get_or ends i end → IsCut seen start end (get_or texts i [])
cut_read {bytes} {seen} {ends} {slice} {texts} {i} {start} {end} u h view l same whole s e =
    let below : i < length ends = omega (arith, length-strings_in bytes 0 ends, ap length view) in
    let first : IsCharBoundary bytes 0 = rw (← same) (IsCharBoundary-start seen u) in
    let from : start ≡ get_or (0 ∷ ends) i 0 = s ∙ ap (λ l. get_or (0 ∷ l) i 0) whole in
    let last : end ≡ get_or ends i 0 = get_or_read ends i end below e 0 in
    let cut = cut_at bytes 0 ends i first h below in
    rw (same, from, last, ← view) cut
