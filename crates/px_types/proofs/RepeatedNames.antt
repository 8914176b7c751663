-- The first repeated name, found by its place.
use Rattle.std.proofs.Common.{◌≡◌, ◌∙◌, ℕ, Bool, true, false, cond, List, [], ◌∷◌, ◌++◌, length, take, Option, Some, option_map, if◌then◌else◌, refl, sym, ap, append_assoc, length-append}
use Rattle.std.proofs.Math.Seq.{take-append_seam}
use Rattle.std.specs.List.{find, enumerate_from, list_any}
use Rattle.std.specs.Str.{bytes_eq}
use Rattle.px_types.specs.Schemas.{first_repeated_after, first_repeated, is_repeated}

selected : (t : Bool) (n : ℕ) (x : List ℕ) (a : Option (List ℕ)) (b : Option (ℕ × List ℕ)) → a ≡ option_map (λ place. place.1) b
    → (if t then Some x else a) ≡ option_map (λ place. place.1) (cond t (Some (n, x)) b)
selected true n x a b e = refl
selected false n x a b e = e

found_after : (before rest all : List (List ℕ)) → all ≡ before ++ rest
    → first_repeated_after before rest ≡ option_map (λ place. place.1) (find (is_repeated all) (enumerate_from (length before) rest))
found_after before [] all e = refl
found_after before (x ∷ rest) all e =
    let seam : take (length before) all ≡ before = ap (take (length before)) e ∙ take-append_seam before (x ∷ rest) in
    let later = rw (length-append before (x ∷ [])) at (found_after (before ++ x ∷ []) rest all (e ∙ sym (append_assoc before (x ∷ []) rest))) in
    rw seam (selected (list_any (bytes_eq x) before) (length before) x _ _ later)

pub first_repeated-found : (names : List (List ℕ)) → first_repeated names ≡ option_map (λ place. place.1) (find (is_repeated names) (enumerate_from 0 names))
first_repeated-found names = found_after [] names names refl
