-- Bits spread over 64 lanes.
use Rattle.std.proofs.Common.{◌≡◌, ℕ, ◌+◌, ◌-◌, ◌<◌, ◌≤◌, Bool, true, false, not, List, [], ◌∷◌, ◌++◌, length, map, refl, ap, ◌∙◌, get_or, take, replicate, slice_set, eqb, arith, zero, suc}
use Rattle.std.specs.Int.{from_bool}
use Rattle.std.specs.Simd.Lanes.{mask_l}
use Rattle.std.proofs.lemmas.List.{take_all}

-- the first places of a list of n, and zeros
put : (bits : List Bool) (i n k : ℕ) → i < length bits → length bits ≤ k → n ≡ from_bool (get_or bits i false)
    → slice_set (map from_bool (take i bits) ++ replicate (k - i) 0) i n ≡ map from_bool (take (i + 1) bits) ++ replicate (k - (i + 1)) 0
put [] i n k h l e = absurd (omega arith)
put (x ∷ bits) i n zero h l e = absurd (omega arith)
put (x ∷ bits) zero n (suc k) h l e =
    let scalar_on_right : suc k - 0 ≡ suc k = omega arith in
    let scalar_on_left : k ≡ suc k - 1 = omega arith in
    ap (λ m. slice_set (replicate m 0) 0 n) scalar_on_right ∙ ap (λ m. m ∷ replicate k 0) e ∙ ap (λ m. from_bool x ∷ replicate m 0) scalar_on_left
put (x ∷ bits) (suc i) n (suc k) h l e =
    let scalar_on_right : suc k - suc i ≡ k - i = omega arith in
    let scalar_on_left : k - (i + 1) ≡ suc k - (suc i + 1) = omega arith in
    let next : suc (i + 1) ≡ suc i + 1 = omega arith in
    ap (λ m. from_bool x ∷ slice_set (map from_bool (take i bits) ++ replicate m 0) i n) scalar_on_right
    ∙ ap (λ ms. from_bool x ∷ ms) (put bits i n k (omega arith) (omega arith) e)
    ∙ ap (λ m. from_bool x ∷ (map from_bool (take (i + 1) bits) ++ replicate m 0)) scalar_on_left
    ∙ ap (λ j. map from_bool (take j (x ∷ bits)) ++ replicate (suc k - (suc i + 1)) 0) next

pub lanes_put : (bits : List Bool) (bytes : List ℕ) (i n : ℕ) → i < length bits → length bits ≤ 64 → bytes ≡ map from_bool (take i bits) ++ replicate (64 - i) 0 → n ≡ from_bool (get_or bits i false)
    → slice_set bytes i n ≡ map from_bool (take (i + 1) bits) ++ replicate (64 - (i + 1)) 0
lanes_put bits bytes i n h l e f = ap (λ bs. slice_set bs i n) e ∙ put bits i n 64 h l f

-- false bits at the end add nothing
mask_l-zeros : (n : ℕ) → mask_l (map (λ x. not (eqb x 0)) (replicate n 0)) ≡ 0
mask_l-zeros zero = refl
mask_l-zeros (suc n) = omega (arith, mask_l-zeros n)

mask_l-padded : (bits : List Bool) (n : ℕ) → mask_l (map (λ x. not (eqb x 0)) (map from_bool bits ++ replicate n 0)) ≡ mask_l bits
mask_l-padded [] n = mask_l-zeros n
mask_l-padded (true ∷ bits) n = omega (arith, mask_l-padded bits n)
mask_l-padded (false ∷ bits) n = omega (arith, mask_l-padded bits n)

pub lanes_all : (bits : List Bool) (bytes : List ℕ) (i : ℕ) → length bits ≤ i → bytes ≡ map from_bool (take i bits) ++ replicate (64 - i) 0
    → mask_l (map (λ x. not (eqb x 0)) bytes) ≡ mask_l bits
lanes_all bits bytes i h e = ap (λ bs. mask_l (map (λ x. not (eqb x 0)) bs)) e ∙ mask_l-padded (take i bits) (64 - i) ∙ ap mask_l (take_all i bits h)
