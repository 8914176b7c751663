-- Rows of two lists that are broadcast.
use Rattle.std.proofs.Common.{map, ◌≡◌, ◌≢◌, ◌∙◌, ℕ, List, [], ◌∷◌, true, false, sym, ap, refl, arith, length, Some, None, replicate, get_or, nat_eq, zero, suc}
use Rattle.std.proofs.lemmas.Bool.Decides.{nat_tests}
use Rattle.std.specs.Simd.Lanes.{zip2}
use Rattle.std.proofs.lemmas.Simd.{zip2_splat, zip2_splat_left}
use Rattle.px_semantics.specs.Rows.{Row, broadcast_length, stretch, elementwise}

equal_test : (m n : ℕ) → m ≡ n → nat_eq m n ≡ true
equal_test m n h = grind (arith, nat_tests)

other_test : (m n : ℕ) → m ≢ n → nat_eq m n ≡ false
other_test m n h = grind (arith, nat_tests)

one_row : (rows : List Row) → length rows ≡ 1 → replicate 1 (get_or rows 0 None) ≡ rows
one_row [] h = cc
one_row (x ∷ []) h = refl
one_row (x ∷ (y ∷ ys)) h = absurd (omega arith)

-- one row is repeated
pub stretch_one : (rows : List Row) (n : ℕ) → length rows ≡ 1 → stretch n rows ≡ replicate n (get_or rows 0 None)
stretch_one rows n h = let e = equal_test (length rows) 1 h in rw e refl

-- rows of another number stay
pub stretch_other : (rows : List Row) (n : ℕ) → length rows ≢ 1 → stretch n rows ≡ rows
stretch_other rows n h = let e = other_test (length rows) 1 h in rw e refl

-- rows of the wanted number stay
pub stretch_whole : (rows : List Row) (n : ℕ) → length rows ≡ n → stretch n rows ≡ rows
stretch_whole rows zero h = stretch_other rows zero (λ e. omega arith)
stretch_whole rows (suc zero) h = stretch_one rows 1 h ∙ one_row rows h
stretch_whole rows (suc (suc n)) h = stretch_other rows (suc (suc n)) (λ e. omega arith)

pub broadcast_same : (m n : ℕ) → m ≡ n → broadcast_length m n ≡ Some m
broadcast_same m n h = let e = equal_test m n h in rw e refl

pub broadcast_left : (m n : ℕ) → m ≡ 1 → broadcast_length m n ≡ Some n
broadcast_left m zero h = let e = other_test m 0 (λ k. omega arith) in let f = equal_test m 1 h in rw (e, f) refl
broadcast_left m (suc zero) h = broadcast_same m 1 h ∙ ap Some h
broadcast_left m (suc (suc n)) h = let e = other_test m (suc (suc n)) (λ k. omega arith) in let f = equal_test m 1 h in rw (e, f) refl

pub broadcast_right : (m n : ℕ) → m ≢ n → m ≢ 1 → n ≡ 1 → broadcast_length m n ≡ Some m
broadcast_right m n h k l = let e = other_test m n h in let f = other_test m 1 k in let g = equal_test n 1 l in rw (e, f, g) refl

pub broadcast_none : (m n : ℕ) → m ≢ n → m ≢ 1 → n ≢ 1 → broadcast_length m n ≡ None
broadcast_none m n h k l = let e = other_test m n h in let f = other_test m 1 k in let g = other_test n 1 l in rw (e, f, g) refl

pub by_broadcast : (f : Row → Row → Row) (xs ys : List Row) (n : ℕ) → broadcast_length (length xs) (length ys) ≡ Some n → elementwise f xs ys ≡ Some (zip2 f (stretch n xs) (stretch n ys))
by_broadcast f xs ys n h = rw h refl

pub rows_same : (f : Row → Row → Row) (xs ys : List Row) → length xs ≡ length ys → elementwise f xs ys ≡ Some (zip2 f xs ys)
rows_same f xs ys h =
    by_broadcast f xs ys (length xs) (broadcast_same (length xs) (length ys) h)
    ∙ ap (λ l. Some (zip2 f l (stretch (length xs) ys))) (stretch_whole xs (length xs) refl)
    ∙ ap (λ l. Some (zip2 f xs l)) (stretch_whole ys (length xs) (sym h))

pub rows_left : (f : Row → Row → Row) (xs ys : List Row) → length xs ≡ 1 → elementwise f xs ys ≡ Some (map (f (get_or xs 0 None)) ys)
rows_left f xs ys h =
    by_broadcast f xs ys (length ys) (broadcast_left (length xs) (length ys) h)
    ∙ ap (λ l. Some (zip2 f l (stretch (length ys) ys))) (stretch_one xs (length ys) h)
    ∙ ap (λ l. Some (zip2 f (replicate (length ys) (get_or xs 0 None)) l)) (stretch_whole ys (length ys) refl)
    ∙ ap Some (zip2_splat_left f (get_or xs 0 None) (length ys) ys refl)

pub rows_right : (f : Row → Row → Row) (xs ys : List Row) → length xs ≢ length ys → length xs ≢ 1 → length ys ≡ 1 → elementwise f xs ys ≡ Some (map (λ x. f x (get_or ys 0 None)) xs)
rows_right f xs ys h k l =
    by_broadcast f xs ys (length xs) (broadcast_right (length xs) (length ys) h k l)
    ∙ ap (λ l. Some (zip2 f l (stretch (length xs) ys))) (stretch_whole xs (length xs) refl)
    ∙ ap (λ l. Some (zip2 f xs l)) (stretch_one ys (length xs) l)
    ∙ ap Some (zip2_splat f xs (length xs) (get_or ys 0 None) refl)

pub rows_none : (f : Row → Row → Row) (xs ys : List Row) → length xs ≢ length ys → length xs ≢ 1 → length ys ≢ 1 → elementwise f xs ys ≡ None
rows_none f xs ys h k l = let e = broadcast_none (length xs) (length ys) h k l in rw e refl
