-- The first place of a row that passes a test, and the first value.
use Rattle.std.proofs.Common.{◌≡◌, ◌∙◌, ◌<◌, ◌≤◌, ◌+◌, ℕ, zero, suc, Bool, true, false, cond, List, [], ◌∷◌, length, get_or, replicate, sym, ap, refl, arith, nat_lt, Option, Some, None, is_some, option_map}
use Rattle.std.specs.List.{find, position, position_or_len}
use Rattle.std.specs.Option.{unwrap_or}
use Rattle.std.proofs.lemmas.List.{length-replicate}
use Rattle.std.proofs.lemmas.Bool.{lt-ltb, le-ltb}
use Rattle.std.proofs.lemmas.List.Sums.{position_or_len_is}
use Rattle.px_semantics.specs.Extremes.{is_least, is_greatest, min_row, max_row, arg_min_row, arg_max_row, position_row}
use Rattle.px_semantics.specs.Horizontals.{coalesce_row}
use Rattle.px_semantics.specs.Rows.{Row}

pub position_found : (p : Row → Bool) (rows : List Row) (i : ℕ) → i < length rows → ((k : ℕ) → k < i → p (get_or rows k None) ≡ false) → p (get_or rows i None) ≡ true → Some i ≡ position p rows
position_found p rows i below before here =
    let e : position_or_len p rows ≡ i = position_or_len_is p rows i None (omega arith) before (λ _. here) in
    sym (ap (λ n. cond (nat_lt n (length rows)) (Some n) None) e ∙ ap (λ b. cond b (Some i) None) (lt-ltb i (length rows) below))

pub position_none : (p : Row → Bool) (rows : List Row) (n : ℕ) → length rows ≤ n → ((k : ℕ) → k < n → p (get_or rows k None) ≡ false) → None ≡ position p rows
position_none p rows n above before =
    let e : position_or_len p rows ≡ length rows = position_or_len_is p rows (length rows) None (omega arith) (λ k h. before k (omega arith)) (λ h. absurd (omega arith)) in
    sym (ap (λ n. cond (nat_lt n (length rows)) (Some n) None) e ∙ ap (λ b. cond b (Some (length rows)) None) (le-ltb (length rows) (length rows) (omega arith)))

-- the first value, where all rows before are null
pub first_found : (rows : List Row) (i : ℕ) → i < length rows → ((k : ℕ) → k < i → get_or rows k None ≡ None) → is_some (get_or rows i None) ≡ true → get_or rows i None ≡ coalesce_row rows
first_found [] i below before here = absurd (omega arith)
first_found (None ∷ rows) zero below before here = cc
first_found (Some x ∷ rows) zero below before here = refl
first_found (None ∷ rows) (suc i) below before here = first_found rows i (omega arith) (λ k h. before (suc k) (omega arith)) here
first_found (Some x ∷ rows) (suc i) below before here = let e : Some x ≡ None = before 0 (omega arith) in cc

pub first_none : (rows : List Row) → ((k : ℕ) → k < length rows → get_or rows k None ≡ None) → None ≡ coalesce_row rows
first_none [] before = refl
first_none (None ∷ rows) before = first_none rows (λ k h. before (suc k) (omega arith))
first_none (Some x ∷ rows) before = let e : Some x ≡ None = before 0 (omega arith) in cc

find_nulls : (p : Row → Bool) → p None ≡ false → (n : ℕ) → find p (replicate n None) ≡ None
find_nulls p e zero = refl
find_nulls p e (suc n) = ap (λ b. cond b (Some None) (find p (replicate n None))) e ∙ find_nulls p e n

same_at : (x : Row) (n k : ℕ) → get_or (replicate n x) k x ≡ x
same_at x zero k = refl
same_at x (suc n) zero = refl
same_at x (suc n) (suc k) = same_at x n k

-- nulls alone have no least value, no greatest, and no place of one
pub min_of_nulls : (n : ℕ) → None ≡ min_row (replicate n None)
min_of_nulls n = sym (ap (λ o. unwrap_or o None) (find_nulls (is_least (replicate n None)) refl n))

pub max_of_nulls : (n : ℕ) → None ≡ max_row (replicate n None)
max_of_nulls n = sym (ap (λ o. unwrap_or o None) (find_nulls (is_greatest (replicate n None)) refl n))

nulls_fail : (p : Row → Bool) → p None ≡ false → (n : ℕ) → None ≡ position p (replicate n None)
nulls_fail p e n =
    let none : Row = None in
    position_none p (replicate n None) n (omega (arith, length-replicate n none)) (λ k h. ap p (same_at none n k) ∙ e)

pub arg_min_of_nulls : (n : ℕ) → None ≡ arg_min_row (replicate n None)
arg_min_of_nulls n = ap position_row (nulls_fail (is_least (replicate n None)) refl n)

pub arg_max_of_nulls : (n : ℕ) → None ≡ arg_max_row (replicate n None)
arg_max_of_nulls n = ap position_row (nulls_fail (is_greatest (replicate n None)) refl n)
