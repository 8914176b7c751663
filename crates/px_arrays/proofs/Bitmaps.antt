-- What the words of bitmaps say of their bits.
use Rattle.std.proofs.Common.{replicate, ◌≡◌, ℕ, ◌+◌, ◌-◌, ◌*◌, ◌/◌, ◌%◌, ◌<◌, ◌≤◌, ◌^◌, Bool, true, false, ◌&&◌, ◌||◌, cond, not, List, [], ◌∷◌, length, map, refl, sym, ap, ◌∙◌, get_or, bit_and, bit_or, bit_xor, min, max, ◌++◌, take, drop, arith, nat_eq, zero, suc, inl, inr, pow-suc}
use Rattle.std.specs.List.{range_with_len, zip}
use Rattle.std.specs.Simd.Lanes.{zip2, mask_l}
use Rattle.std.specs.Int.{bit_at, from_bool}
use Rattle.std.proofs.Math.Nat.{pow-le-pow_right}
use Rattle.std.proofs.lemmas.List.{get_or_past, take_more, length-take-le, length-take, get_or_append_left, get_or_at, get_or-take, get_or-drop}
use Rattle.std.proofs.lemmas.List.FromFn.{length-map-range_with_len, get_or-map-range_with_len, fill_by_all}
use Rattle.std.proofs.lemmas.Simd.{length-zip2, zip2-map, bit_mask_l, mask_l-lt}
use Rattle.std.proofs.lemmas.Nat.Bits.{bit_at-zero, bit_at_and, bit_at_or, bit_at_xor, bit_at-lt, shr_and_one}
use Rattle.std.proofs.lemmas.Bool.{cases_lt}
use Rattle.std.proofs.lemmas.Nat.{one_shl}
use Rattle.px_arrays.specs.BitmapOf.{bit_of, bits_of, FewWords}

-- two functions that agree everywhere give one list
pub map_same : {A B : Type 0} (f g : A → B) (xs : List A) → ((x : A) → f x ≡ g x) → map f xs ≡ map g xs
map_same f g [] h = refl
map_same f g (x ∷ xs) h = grind (arith, h x, map_same f g xs h)

-- the pairs of two lists under a function
pub map-zip : {A B C : Type 0} (f : A → B → C) (xs : List A) (ys : List B) → map (λ (p : A × B). f p.0 p.1) (zip xs ys) ≡ zip2 f xs ys
map-zip f [] ys = refl
map-zip f (x ∷ xs) [] = refl
map-zip f (x ∷ xs) (y ∷ ys) = ap (λ zs. f x y ∷ zs) (map-zip f xs ys)

-- the same, where each list is seen through n
pub zip2_maps : {A B C : Type 0} (n : A → B) (f : B → B → C) (xs ys : List A) → map (λ (p : A × A). f (n p.0) (n p.1)) (zip xs ys) ≡ zip2 f (map n xs) (map n ys)
zip2_maps n f [] ys = refl
zip2_maps n f (x ∷ xs) [] = refl
zip2_maps n f (x ∷ xs) (y ∷ ys) = ap (λ zs. f (n x) (n y) ∷ zs) (zip2_maps n f xs ys)

-- a function of what n shows
pub maps : {A B C : Type 0} (n : A → B) (f : B → C) (xs : List A) → map f (map n xs) ≡ map (λ x. f (n x)) xs
maps n f [] = refl
maps n f (x ∷ xs) = ap (λ zs. f (n x) ∷ zs) (maps n f xs)

pub zip2-append : {A B C : Type 0} (f : A → B → C) (xs us : List A) (ys vs : List B) → length xs ≡ length ys → zip2 f (xs ++ us) (ys ++ vs) ≡ zip2 f xs ys ++ zip2 f us vs
zip2-append f [] us [] vs h = refl
zip2-append f [] us (y ∷ ys) vs h = cc
zip2-append f (x ∷ xs) us [] vs h = cc
zip2-append f (x ∷ xs) us (y ∷ ys) vs h = ap (λ zs. f x y ∷ zs) (zip2-append f xs us ys vs (omega arith))

-- the same at every place, also past the end
pub at_zip2 : (f : ℕ → ℕ → ℕ) (xs ys : List ℕ) (i : ℕ) → length xs ≡ length ys → f 0 0 ≡ 0 → get_or (zip2 f xs ys) i 0 ≡ f (get_or xs i 0) (get_or ys i 0)
at_zip2 f [] [] i h e = sym e
at_zip2 f [] (y ∷ ys) i h e = cc
at_zip2 f (x ∷ xs) [] i h e = cc
at_zip2 f (x ∷ xs) (y ∷ ys) zero h e = refl
at_zip2 f (x ∷ xs) (y ∷ ys) (suc i) h e = at_zip2 f xs ys i (omega arith) e

-- a bit is 0 or 1
pub by_bit : (P : ℕ → Type 0) → P 0 → P 1 → (m : ℕ) → m < 2 → P m
by_bit P a b zero p = a
by_bit P a b (suc zero) p = b
by_bit P a b (suc (suc m)) p = absurd (omega arith)

one_or_zero : (b : Bool) → nat_eq (cond b 1 0) 1 ≡ b
one_or_zero true = refl
one_or_zero false = refl

-- by cases on two bits
by_bits : (P : ℕ → ℕ → Type 0) → P 0 0 → P 0 1 → P 1 0 → P 1 1 → (m n : ℕ) → m < 2 → n < 2 → P m n
by_bits P a b c d m n p q = by_bit (λ m. P m n) (by_bit (λ n. P 0 n) a b n q) (by_bit (λ n. P 1 n) c d n q) m p

-- f of two words is g of their bits, bit by bit, and where neither has a bit f has none
pub record Bitwise (f : ℕ → ℕ → ℕ) (g : Bool → Bool → Bool) : Type 0 where
  pub each : (a b i : ℕ) → nat_eq (bit_at (f a b) i) 1 ≡ g (nat_eq (bit_at a i) 1) (nat_eq (bit_at b i) 1)
  pub none : f 0 0 ≡ 0
  pub clear : g false false ≡ false

pub bitwise_and : Bitwise bit_and (λ x y. x && y)
bitwise_and = record {
  each = λ a b i. ap (λ n. nat_eq n 1) (bit_at_and a b i)
      ∙ by_bits (λ m n. nat_eq (min m n) 1 ≡ nat_eq m 1 && nat_eq n 1) refl refl refl refl (bit_at a i) (bit_at b i) (bit_at-lt a i) (bit_at-lt b i);
  none = refl;
  clear = refl;
}

pub bitwise_or : Bitwise bit_or (λ x y. x || y)
bitwise_or = record {
  each = λ a b i. ap (λ n. nat_eq n 1) (bit_at_or a b i)
      ∙ by_bits (λ m n. nat_eq (max m n) 1 ≡ nat_eq m 1 || nat_eq n 1) refl refl refl refl (bit_at a i) (bit_at b i) (bit_at-lt a i) (bit_at-lt b i);
  none = refl;
  clear = refl;
}

pub bitwise_xor : Bitwise bit_xor (λ x y. cond x (not y) y)
bitwise_xor = record {
  each = λ a b i. ap (λ n. nat_eq n 1) (bit_at_xor a b i)
      ∙ by_bits (λ m n. nat_eq ((m + n) % 2) 1 ≡ cond (nat_eq m 1) (not (nat_eq n 1)) (nat_eq n 1)) refl refl refl refl (bit_at a i) (bit_at b i) (bit_at-lt a i) (bit_at-lt b i);
  none = refl;
  clear = refl;
}

pub bit_of-zip : (f : ℕ → ℕ → ℕ) (g : Bool → Bool → Bool) → Bitwise f g → (xs ys : List ℕ) (i : ℕ) → length xs ≡ length ys → bit_of (zip2 f xs ys) i ≡ g (bit_of xs i) (bit_of ys i)
unfolding bit_of
bit_of-zip f g bitwise xs ys i h =
    ap (λ n. nat_eq (bit_at n (i % 64)) 1) (at_zip2 f xs ys (i / 64) h bitwise.none)
    ∙ bitwise.each (get_or xs (i / 64) 0) (get_or ys (i / 64) 0) (i % 64)

pub bits_of-zip : (f : ℕ → ℕ → ℕ) (g : Bool → Bool → Bool) → Bitwise f g → (xs ys : List ℕ) (n : ℕ) → length xs ≡ length ys → bits_of (zip2 f xs ys) n ≡ zip2 g (bits_of xs n) (bits_of ys n)
bits_of-zip f g bitwise xs ys n h =
    map_same (bit_of (zip2 f xs ys)) (λ i. g (bit_of xs i) (bit_of ys i)) (range_with_len 0 n) (λ i. bit_of-zip f g bitwise xs ys i h)
    ∙ sym (zip2-map g (bit_of xs) (bit_of ys) (range_with_len 0 n))

pub FewWords-zip : (f : ℕ → ℕ → ℕ) (g : Bool → Bool → Bool) → Bitwise f g → (xs ys : List ℕ) (n : ℕ) → FewWords xs n → FewWords ys n → FewWords (zip2 f xs ys) n
FewWords-zip f g bitwise xs ys n p q = record {
  below_limit = p.below_limit;
  whole = length-zip2 f xs ys (p.whole ∙ sym q.whole) ∙ p.whole;
  clear = λ i h. bit_of-zip f g bitwise xs ys i (p.whole ∙ sym q.whole) ∙ ap (λ b. g b (bit_of ys i)) (p.clear i h) ∙ ap (g false) (q.clear i h) ∙ bitwise.clear;
}

-- n bits, in just the words that they need
pub record HaveBits (words : List ℕ) (n : ℕ) (us : List Bool) : Type 0 where
  pub inv : FewWords words n
  pub bits : bits_of words n ≡ us

pub have_bits : (words : List ℕ) (n : ℕ) (us : List Bool) → FewWords words n → bits_of words n ≡ us → HaveBits words n us
have_bits words n us p e = record { inv = p; bits = e }

same_number : (xs ys : List ℕ) (m n : ℕ) (us vs : List Bool) → HaveBits xs m us → HaveBits ys n vs → length us ≡ length vs → m ≡ n
same_number xs ys m n us vs p q h = sym (length-map-range_with_len (bit_of xs) 0 m) ∙ ap length p.bits ∙ h ∙ sym (ap length q.bits) ∙ length-map-range_with_len (bit_of ys) 0 n

-- the words are as many where the bits are
pub words_long : {xs ys : List ℕ} {m n : ℕ} {us vs : List Bool} → HaveBits xs m us → HaveBits ys n vs → length us ≡ length vs → length xs ≡ length ys
words_long {xs} {ys} {m} {n} {us} {vs} p q h = p.inv.whole ∙ ap (λ k. (k + 63) / 64) (same_number xs ys m n us vs p q h) ∙ sym q.inv.whole

-- f of the words is g of the bits
pub have_bits-zip : (f : ℕ → ℕ → ℕ) (g : Bool → Bool → Bool) → Bitwise f g → {xs ys : List ℕ} {m n : ℕ} {us vs : List Bool} → HaveBits xs m us → HaveBits ys n vs → length us ≡ length vs → HaveBits (zip2 f xs ys) m (zip2 g us vs)
have_bits-zip f g bitwise {xs} {ys} {m} {n} {us} {vs} p q h =
    let same : m ≡ n = same_number xs ys m n us vs p q h in
    let other : FewWords ys m = rw same q.inv in
    record {
      inv = FewWords-zip f g bitwise xs ys m p.inv other;
      bits = bits_of-zip f g bitwise xs ys m (p.inv.whole ∙ sym other.whole) ∙ ap (λ l. zip2 g l (bits_of ys m)) p.bits ∙ ap (λ l. zip2 g us l) (ap (bits_of ys) same ∙ q.bits);
    }

pub zipped : (f : ℕ → ℕ → ℕ) (g : Bool → Bool → Bool) → Bitwise f g → {xs ys : List ℕ} (zs : List ℕ) {m n : ℕ} {us vs : List Bool} → HaveBits xs m us → HaveBits ys n vs → length us ≡ length vs
    → zs ≡ map (λ (p : ℕ × ℕ). f p.0 p.1) (zip xs ys) → HaveBits zs m (zip2 g us vs)
zipped f g bitwise {xs} {ys} zs p q h e = let is : zs ≡ zip2 f xs ys = e ∙ map-zip f xs ys in rw is (have_bits-zip f g bitwise p q h)

-- s of f of two words and a third, in one pass
three_words : (s f : ℕ → ℕ → ℕ) (xs ys ms : List ℕ) → map (λ (w : (ℕ × ℕ) × ℕ). s (f w.0.0 w.0.1) w.1) (zip (zip xs ys) ms) ≡ zip2 s (zip2 f xs ys) ms
three_words s f [] ys ms = refl
three_words s f (x ∷ xs) [] ms = refl
three_words s f (x ∷ xs) (y ∷ ys) [] = refl
three_words s f (x ∷ xs) (y ∷ ys) (m ∷ ms) = ap (λ l. s (f x y) m ∷ l) (three_words s f xs ys ms)

pub three_zipped : (s f : ℕ → ℕ → ℕ) (t g : Bool → Bool → Bool) → Bitwise s t → Bitwise f g → {xs ys ms : List ℕ} (zs : List ℕ) {m n k : ℕ} {us vs ws : List Bool}
    → HaveBits xs m us → HaveBits ys n vs → HaveBits ms k ws → length us ≡ length vs → length us ≡ length ws
    → zs ≡ map (λ (w : (ℕ × ℕ) × ℕ). s (f w.0.0 w.0.1) w.1) (zip (zip xs ys) ms) → HaveBits zs m (zip2 t (zip2 g us vs) ws)
three_zipped s f t g outer inner {xs} {ys} {ms} zs {us = us} {vs = vs} p q r h l e =
    let is : zs ≡ zip2 s (zip2 f xs ys) ms = e ∙ three_words s f xs ys ms in
    rw is (have_bits-zip s t outer (have_bits-zip f g inner p q h) r (length-zip2 g us vs h ∙ l))

-- the words of two lists of Booleans, each with their validity, in one pass
four_words : (s f k h : ℕ → ℕ → ℕ) (xs us ys vs : List ℕ)
    → map (λ (w : (ℕ × ℕ) × (ℕ × ℕ)). s (f w.0.0 w.1.0) (k (h w.0.0 w.0.1) (h w.1.0 w.1.1))) (zip (zip xs us) (zip ys vs)) ≡ zip2 s (zip2 f xs ys) (zip2 k (zip2 h xs us) (zip2 h ys vs))
four_words s f k h [] us ys vs = refl
four_words s f k h (x ∷ xs) [] [] vs = refl
four_words s f k h (x ∷ xs) (u ∷ us) [] vs = refl
four_words s f k h (x ∷ xs) [] (y ∷ ys) vs = refl
four_words s f k h (x ∷ xs) (u ∷ us) (y ∷ ys) [] = refl
four_words s f k h (x ∷ xs) (u ∷ us) (y ∷ ys) (v ∷ vs) = ap (λ l. s (f x y) (k (h x u) (h y v)) ∷ l) (four_words s f k h xs us ys vs)

-- the validity of a Kleene operator: f of the two truths, or k of the two falsities
pub validity_zipped : (f k : ℕ → ℕ → ℕ) (g j : Bool → Bool → Bool) → Bitwise f g → Bitwise k j → {xs us ys vs : List ℕ} (zs : List ℕ) {m n a b : ℕ} {ts ps qs rs : List Bool}
    → HaveBits xs m ts → HaveBits us a ps → HaveBits ys n qs → HaveBits vs b rs → length ts ≡ length qs → length ts ≡ length ps → length qs ≡ length rs
    → zs ≡ map (λ (w : (ℕ × ℕ) × (ℕ × ℕ)). bit_or (f w.0.0 w.1.0) (k (bit_xor w.0.0 w.0.1) (bit_xor w.1.0 w.1.1))) (zip (zip xs us) (zip ys vs))
    → HaveBits zs m (zip2 (λ x y. x || y) (zip2 g ts qs) (zip2 j (zip2 (λ x y. cond x (not y) y) ts ps) (zip2 (λ x y. cond x (not y) y) qs rs)))
validity_zipped f k g j true_side false_side {xs} {us} {ys} {vs} zs {ts = ts} {ps = ps} {qs = qs} {rs = rs} p pv q qv h hp hq e =
    let exclusive : Bool → Bool → Bool = λ x y. cond x (not y) y in
    let is : zs ≡ zip2 bit_or (zip2 f xs ys) (zip2 k (zip2 bit_xor xs us) (zip2 bit_xor ys vs)) = e ∙ four_words bit_or f k bit_xor xs us ys vs in
    let left : length (zip2 exclusive ts ps) ≡ length ts = length-zip2 exclusive ts ps hp in
    let right : length (zip2 exclusive qs rs) ≡ length qs = length-zip2 exclusive qs rs hq in
    let across : length (zip2 exclusive ts ps) ≡ length (zip2 exclusive qs rs) = left ∙ h ∙ sym right in
    let mine = have_bits-zip bit_xor exclusive bitwise_xor p pv hp in
    let others = have_bits-zip bit_xor exclusive bitwise_xor q qv hq in
    rw is
    (have_bits-zip bit_or (λ x y. x || y) bitwise_or (have_bits-zip f g true_side p q h) (have_bits-zip k j false_side mine others across)
    (length-zip2 g ts qs h ∙ sym (length-zip2 j (zip2 exclusive ts ps) (zip2 exclusive qs rs) across ∙ left)))

pub length-bits_of : (words : List ℕ) (n : ℕ) → length (bits_of words n) ≡ n
length-bits_of words n = length-map-range_with_len (bit_of words) 0 n

pub get_or-bits_of : (words : List ℕ) (n i : ℕ) → i < n → get_or (bits_of words n) i false ≡ bit_of words i
get_or-bits_of words n i h = get_or-map-range_with_len (bit_of words) 0 n i i false h (omega arith)

-- the test that reads bit i
pub bit_read : (words : List ℕ) (i word : ℕ) → word ≡ get_or words (i / 64) 0 → nat_eq (bit_and (word / 2 ^ (i % 64)) 1) 1 ≡ bit_of words i
unfolding bit_of
bit_read words i word e = ap (λ n. nat_eq n 1) (shr_and_one word (i % 64)) ∙ ap (λ n. nat_eq (bit_at n (i % 64)) 1) e

-- one bit more
twice : (c n m k p q : ℕ) → n ≡ m + k * p → q ≡ 2 * p → k < 2 → c + 2 * n ≡ c + 2 * m + k * q
twice c n m zero p q e f h = omega arith
twice c n m (suc zero) p q e f h = omega arith
twice c n m (suc (suc k)) p q e f h = absurd (omega arith)

byte_lt : (b : Bool) → cond b 1 0 < 2
byte_lt true = omega arith
byte_lt false = omega arith

pub mask_l-push : (bs : List Bool) (b : Bool) → mask_l (bs ++ b ∷ []) ≡ mask_l bs + cond b 1 0 * 2 ^ length bs
mask_l-push [] true = refl
mask_l-push [] false = refl
mask_l-push (x ∷ xs) b = twice (cond x 1 0) (mask_l (xs ++ b ∷ [])) (mask_l xs) (cond b 1 0) (2 ^ length xs) (2 ^ suc (length xs)) (mask_l-push xs b) (omega (arith, pow-suc 2 (length xs))) (byte_lt b)

pub mask_l-more : (bits : List Bool) (i : ℕ) → i < length bits → mask_l (take (i + 1) bits) ≡ mask_l (take i bits) + cond (get_or bits i false) 1 0 * 2 ^ i
mask_l-more bits i h =
    ap mask_l (take_more bits i false h) ∙ mask_l-push (take i bits) (get_or bits i false)
    ∙ ap (λ n. mask_l (take i bits) + cond (get_or bits i false) 1 0 * 2 ^ n) (length-take-le i bits (omega arith))

shifted : (b : Bool) (i : ℕ) → i < 64 → from_bool b * 2 ^ i % 2 ^ 64 ≡ cond b 1 0 * 2 ^ i
shifted true i h = omega (arith, one_shl i 64 h)
shifted false i h = omega arith

pub pack_step : (bits : List Bool) (i word n : ℕ) → i < length bits → length bits ≤ 64 → word ≡ mask_l (take i bits) → n ≡ from_bool (get_or bits i false)
    → word + n * 2 ^ i % 2 ^ 64 ≡ mask_l (take (i + 1) bits)
pack_step bits i word n h l e f =
    ap (λ m. m + n * 2 ^ i % 2 ^ 64) e ∙ ap (λ m. mask_l (take i bits) + m * 2 ^ i % 2 ^ 64) f
    ∙ ap (λ m. mask_l (take i bits) + m) (shifted (get_or bits i false) i (omega arith)) ∙ sym (mask_l-more bits i h)

pub mask_fits : (bits : List Bool) (i : ℕ) → i ≤ length bits → length bits ≤ 64 → mask_l (take i bits) < 2 ^ 64
mask_fits bits i h l = omega (arith, mask_l-lt (take i bits), pow-le-pow_right {n = 2} (omega arith) {i = length (take i bits)} {j = 64} (omega (arith, length-take i bits)))

-- bit k of the word of a part
pub bit_of_part : (part : List Bool) (k : ℕ) → nat_eq (bit_at (mask_l part) k) 1 ≡ get_or part k false
bit_of_part part k = ap (λ n. nat_eq n 1) (bit_mask_l part k) ∙ one_or_zero (get_or part k false)

-- no bit stands past the last word
pub bit_of_past : (words : List ℕ) (i : ℕ) → 64 * length words ≤ i → bit_of words i ≡ false
unfolding bit_of
bit_of_past words i h = ap (λ n. nat_eq (bit_at n (i % 64)) 1) (get_or_past words (i / 64) 0 (omega arith)) ∙ ap (λ n. nat_eq n 1) (bit_at-zero (i % 64))

-- a word more
pub packed_more : (bits : List Bool) (words : List ℕ) (at word : ℕ) (part : List Bool)
    → length words ≡ at → ((i : ℕ) → i < 64 * at → bit_of words i ≡ get_or bits i false)
    → word ≡ mask_l part → ((k : ℕ) → k < 64 → get_or part k false ≡ get_or bits (64 * at + k) false)
    → (i : ℕ) → i < 64 * (at + 1) → bit_of (words ++ word ∷ []) i ≡ get_or bits i false
unfolding bit_of
packed_more bits words at word part same_length read made same i h =
    elim (cases_lt i (64 * at)) [
      | inl p ↦ ap (λ n. nat_eq (bit_at n (i % 64)) 1) (get_or_append_left words (word ∷ []) 0 (i / 64) (omega arith)) ∙ read i p
      | inr p ↦ ap (λ n. nat_eq (bit_at n (i % 64)) 1) (get_or_at words word [] 0 (i / 64) (omega arith)) ∙ ap (λ n. nat_eq (bit_at n (i % 64)) 1) made
          ∙ bit_of_part part (i % 64) ∙ same (i % 64) (omega arith) ∙ ap (λ n. get_or bits n false) (omega arith)
    ]

-- the bits of part number `at`
pub part_read : (bits : List Bool) (at start n k : ℕ) → start ≡ at * 64 → k < 64 → n ≡ min (length bits) (start + 64) - start
    → get_or (take n (drop start bits)) k false ≡ get_or bits (64 * at + k) false
part_read bits at start n k e h p =
    elim (cases_lt k n) [
      | inl r ↦ get_or-take n (drop start bits) k false r ∙ get_or-drop start bits k false ∙ ap (λ m. get_or bits m false) (omega arith)
      | inr r ↦ get_or_past (take n (drop start bits)) k false (omega (arith, length-take n (drop start bits))) ∙ sym (get_or_past bits (64 * at + k) false (omega arith))
    ]

pub packed_all : (bits : List Bool) (words : List ℕ) (n count : ℕ) → length bits ≡ n → count ≡ (n + 63) / 64 → length words ≡ count → n < 2 ^ 32
    → ((i : ℕ) → i < 64 * count → bit_of words i ≡ get_or bits i false) → FewWords words n × (bits_of words n ≡ bits)
packed_all bits words n count same_length many whole below_limit read = (
  record {
    below_limit = below_limit;
    whole = whole ∙ many;
    clear = λ i h. elim (cases_lt i (64 * count)) [
      | inl p ↦ read i p ∙ get_or_past bits i false (omega arith)
      | inr p ↦ bit_of_past words i (omega arith)
    ];
  },
  sym (fill_by_all (bit_of words) bits n false same_length (λ k h. sym (read k (omega arith)))),
)

-- each bit of the words, also past the last
pub each_bit : (words : List ℕ) (n i : ℕ) → FewWords words n → bit_of words i ≡ get_or (bits_of words n) i false
each_bit words n i p =
    elim (cases_lt i n) [
      | inl q ↦ sym (get_or-bits_of words n i q)
      | inr q ↦ p.clear i q ∙ sym (get_or_past (bits_of words n) i false (omega (arith, length-bits_of words n)))
    ]

keep_true : (x : Bool) → x ≡ x && true
keep_true true = refl
keep_true false = refl

clear_false : (x : Bool) → false ≡ x && false
clear_false true = refl
clear_false false = refl

-- the bits where a bit is set, and where it is not
pub and_all : (xs : List Bool) (bit : Bool) → bit ≡ true → xs ≡ map (λ x. x && bit) xs
and_all [] bit h = refl
and_all (x ∷ xs) bit h = let here = keep_true x in let rest = and_all xs bit h in cc

pub and_none : (xs : List Bool) (bit : Bool) → bit ≡ false → replicate (length xs) false ≡ map (λ x. x && bit) xs
and_none [] bit h = refl
and_none (x ∷ xs) bit h = let here = clear_false x in let rest = and_none xs bit h in cc
