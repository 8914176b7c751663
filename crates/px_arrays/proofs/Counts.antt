-- Words of one bit, and the bits that are set in words.
use Rattle.std.proofs.Common.{◌≡◌, ℕ, ◌+◌, ◌-◌, ◌*◌, ◌/◌, ◌%◌, ◌<◌, ◌≤◌, ◌^◌, Bool, true, false, not, cond, List, [], ◌∷◌, length, refl, sym, ap, ◌∙◌, ◌⊎◌, get_or, take, drop, ◌++◌, replicate, count_ones, count_by, nat_eq, arith, zero, suc, inl, inr, pow-suc}
use Rattle.std.specs.Int.{bit_at}
use Rattle.std.specs.Simd.Lanes.{mask_l}
use Rattle.std.proofs.lemmas.List.{take_all, length-take, get_or-take, get_or-drop, get_or_append_left, get_or-append_right, get_or_past, map-id}
use Rattle.std.proofs.lemmas.List.{length-append, length-replicate, get_or-replicate}
use Rattle.std.proofs.lemmas.List.Sums.{sum_by-append, sum_by-cons, count_by-le-length}
use Rattle.std.proofs.lemmas.Simd.{bit_mask_l, mask_l-lt, ones-mask_l}
use Rattle.std.proofs.lemmas.Nat.Bits.{bit_at-lt, same_from_bits_below, ones_shr}
use Rattle.std.proofs.lemmas.Bool.{cases_lt}
use Rattle.std.proofs.Math.Nat.{pow-le-pow_right}
use Rattle.std.proofs.Math.Seq.{take-add}
use Rattle.px_arrays.specs.BitmapOf.{bit_of, bits_of, FewWords}
use Rattle.px_arrays.proofs.Bitmaps.{by_bit, bit_of_part, each_bit, length-bits_of}

-- n ones are the number before 2 ^ n
ones_before : (n : ℕ) → mask_l (replicate n true) + 1 ≡ 2 ^ n
ones_before zero = refl
ones_before (suc n) = omega (arith, ones_before n, pow-suc 2 n)

pub ones_shifted : (n : ℕ) (bit : Bool) → bit ≡ true → n ≤ 64 → (2 ^ 64 - 1) / 2 ^ (64 - n) ≡ mask_l (replicate n bit)
ones_shifted n false e h = absurd cc
ones_shifted n true e h =
    let back : 64 - (64 - n) ≡ n = omega arith in
    ones_shr 64 (64 - n) (omega arith) ∙ ap (λ k. 2 ^ k - 1) back ∙ omega (arith, ones_before n)

no_ones : (n : ℕ) → 0 ≡ mask_l (replicate n false)
no_ones zero = refl
no_ones (suc n) = omega (arith, no_ones n)

pub none_set : (n : ℕ) (bit : Bool) → ((bit ≡ true) × (n ≤ 0)) ⊎ (bit ≡ false) → 0 ≡ mask_l (replicate n bit)
none_set zero bit h = refl
none_set (suc n) false h = no_ones (suc n)
none_set (suc n) true (inl h) = absurd (omega (arith, h.1))
none_set (suc n) true (inr h) = absurd cc

-- what two fills make of an empty list
pub filled_items : (q count k m v w : ℕ) (none some all : List ℕ) → none ≡ [] → k ≡ 0 → m ≡ q → q ≤ count
    → some ≡ take q none ++ replicate (q - k) v → all ≡ take count some ++ replicate (count - m) w → all ≡ replicate q v ++ replicate (count - q) w
filled_items q count k m v w none some all n z e h f g =
    let first : some ≡ replicate q v = f ∙ ap (λ l. take q l ++ replicate (q - k) v) n ∙ ap (λ l. l ++ replicate (q - k) v) (take_all q [] (omega arith)) ∙ ap (λ i. replicate i v) (omega arith) in
    let whole : take count (replicate q v) ≡ replicate q v = take_all count (replicate q v) (omega (arith, length-replicate q v)) in
    g ∙ ap (λ l. take count l ++ replicate (count - m) w) first ∙ ap (λ l. l ++ replicate (count - m) w) whole ∙ ap (λ i. replicate q v ++ replicate (count - i) w) e

pub filled_length : (n v w : ℕ) → length (replicate (n / 64) v ++ replicate ((n + 63) / 64 - n / 64) w) ≡ (n + 63) / 64
filled_length n v w =
    omega (arith, length-append (replicate (n / 64) v) (replicate ((n + 63) / 64 - n / 64) w), length-replicate (n / 64) v, length-replicate ((n + 63) / 64 - n / 64) w)

-- bit k of the last word, where it is the only one that is not full
rest_bit : (n i : ℕ) (bit : Bool) → 64 * (n / 64) ≤ i → i / 64 ≡ n / 64 → get_or (replicate (n % 64) bit) (i % 64) false ≡ get_or (replicate n bit) i false
rest_bit n i bit h e =
    elim (cases_lt i n) [
      | inl q ↦ get_or-replicate (n % 64) (i % 64) bit false (omega arith) ∙ sym (get_or-replicate n i bit false q)
      | inr q ↦ get_or_past (replicate (n % 64) bit) (i % 64) false (omega (arith, length-replicate (n % 64) bit)) ∙ sym (get_or_past (replicate n bit) i false (omega (arith, length-replicate n bit)))
    ]

-- the bits of full words and, where n is no multiple of 64, one word for the rest
pub filled_bit : (n : ℕ) (bit : Bool) (v w : ℕ) → v ≡ mask_l (replicate 64 bit) → w ≡ mask_l (replicate (n % 64) bit)
    → (i : ℕ) → i < 64 * ((n + 63) / 64) → bit_of (replicate (n / 64) v ++ replicate ((n + 63) / 64 - n / 64) w) i ≡ get_or (replicate n bit) i false
unfolding bit_of
filled_bit n bit v w e f i h =
    let full : List ℕ = replicate (n / 64) v in
    let rest : List ℕ = replicate ((n + 63) / 64 - n / 64) w in
    let many : length full ≡ n / 64 = length-replicate (n / 64) v in
    elim (cases_lt i (64 * (n / 64))) [
      | inl p ↦ ap (λ m. nat_eq (bit_at m (i % 64)) 1) (get_or_append_left full rest 0 (i / 64) (omega arith) ∙ get_or-replicate (n / 64) (i / 64) v 0 (omega arith) ∙ e)
          ∙ bit_of_part (replicate 64 bit) (i % 64) ∙ get_or-replicate 64 (i % 64) bit false (omega arith) ∙ sym (get_or-replicate n i bit false (omega arith))
      | inr p ↦ ap (λ m. nat_eq (bit_at m (i % 64)) 1) (get_or-append_right full rest (n / 64) (i / 64) 0 many (omega arith) ∙ get_or-replicate ((n + 63) / 64 - n / 64) (i / 64 - n / 64) w 0 (omega arith) ∙ f)
          ∙ bit_of_part (replicate (n % 64) bit) (i % 64) ∙ rest_bit n i bit p (omega arith)
    ]

-- a number below 2 is the one that its test tells
tested : (m : ℕ) (b : Bool) → m < 2 → nat_eq m 1 ≡ b → m ≡ cond b 1 0
tested m b h e = by_bit (λ k. nat_eq k 1 ≡ b → k ≡ cond b 1 0) (λ f. ap (λ t. cond t 1 0) f) (λ f. ap (λ t. cond t 1 0) f) m h e

-- bit i of word number `at`, and place i of its part of the bits
part_bit : (words : List ℕ) (n at word i : ℕ) → FewWords words n → word ≡ get_or words at 0 → i < 64
    → nat_eq (bit_at word i) 1 ≡ get_or (take 64 (drop (64 * at) (bits_of words n))) i false
unfolding bit_of
part_bit words n at word i p e h =
    let bits : List Bool = bits_of words n in
    let place : at ≡ (64 * at + i) / 64 = omega arith in
    let within : i ≡ (64 * at + i) % 64 = omega arith in
    ap (λ w. nat_eq (bit_at w i) 1) e
    ∙ ap (λ k. nat_eq (bit_at (get_or words k 0) i) 1) place
    ∙ ap (λ k. nat_eq (bit_at (get_or words ((64 * at + i) / 64) 0) k) 1) within
    ∙ each_bit words n (64 * at + i) p
    ∙ sym (get_or-drop (64 * at) bits i false)
    ∙ sym (get_or-take 64 (drop (64 * at) bits) i false h)

-- a word is that of its part of the bits
part_word : (words : List ℕ) (n at word : ℕ) → FewWords words n → word ≡ get_or words at 0 → word < 2 ^ 64
    → word ≡ mask_l (take 64 (drop (64 * at) (bits_of words n)))
part_word words n at word p e h =
    let part : List Bool = take 64 (drop (64 * at) (bits_of words n)) in
    let short : length part ≤ 64 = omega (arith, length-take 64 (drop (64 * at) (bits_of words n))) in
    same_from_bits_below 64 word (mask_l part) h (omega (arith, mask_l-lt part, pow-le-pow_right {n = 2} (omega arith) {i = length part} {j = 64} short))
    (λ i q. tested (bit_at word i) (get_or part i false) (bit_at-lt word i) (part_bit words n at word i p e q) ∙ sym (bit_mask_l part i))

pub part_ones : (words : List ℕ) (n at word : ℕ) → FewWords words n → word ≡ get_or words at 0 → word < 2 ^ 64
    → count_by (λ b. b) (take (64 * at) (bits_of words n)) + count_ones word ≡ count_by (λ b. b) (take (64 * (at + 1)) (bits_of words n))
part_ones words n at word p e h =
    let bits : List Bool = bits_of words n in
    let part : List Bool = take 64 (drop (64 * at) bits) in
    let here : count_ones word ≡ count_by (λ b. b) part = ap count_ones (part_word words n at word p e h) ∙ ap (λ l. count_ones (mask_l l)) (sym (map-id part)) ∙ ones-mask_l (λ b. b) part in
    ap (λ k. count_by (λ b. b) (take (64 * at) bits) + k) here
    ∙ sym (sum_by-append (λ b. cond b 1 0) (take (64 * at) bits) part)
    ∙ ap (λ l. count_by (λ b. b) l) (sym (take-add (64 * at) 64 bits))
    ∙ ap (λ k. count_by (λ b. b) (take k bits)) (omega arith)

-- the bits that are set and those that are not are all
both_counts : (bits : List Bool) → count_by (λ b. b) bits + count_by not bits ≡ length bits
both_counts [] = refl
both_counts (true ∷ bits) = omega (arith, both_counts bits, sum_by-cons (λ b. cond b 1 0) true bits, sum_by-cons (λ b. cond (not b) 1 0) true bits)
both_counts (false ∷ bits) = omega (arith, both_counts bits, sum_by-cons (λ b. cond b 1 0) false bits, sum_by-cons (λ b. cond (not b) 1 0) false bits)

-- what is counted up to any place is at most the number of bits
pub ones_few : (words : List ℕ) (n k : ℕ) → count_by (λ b. b) (take k (bits_of words n)) ≤ n
ones_few words n k = omega (arith, count_by-le-length (λ b. b) (take k (bits_of words n)), length-take k (bits_of words n), length-bits_of words n)

-- the bits that are not set, once each word is counted
pub zeros_left : (words : List ℕ) (n at ones : ℕ) → FewWords words n → length words ≤ at → ones ≡ count_by (λ b. b) (take (64 * at) (bits_of words n))
    → n - ones ≡ count_by not (bits_of words n)
zeros_left words n at ones p h e =
    let bits : List Bool = bits_of words n in
    let all : take (64 * at) bits ≡ bits = take_all (64 * at) bits (omega (arith, length-bits_of words n, p.whole)) in
    let here : ones ≡ count_by (λ b. b) bits = e ∙ ap (λ l. count_by (λ b. b) l) all in
    omega (arith, both_counts bits, length-bits_of words n, here)
