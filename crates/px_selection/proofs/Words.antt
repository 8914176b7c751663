-- Positions of bits that are set, word by word.
use Rattle.std.proofs.Common.{◌≡◌, ◌∙◌, ◌+◌, ◌-◌, ◌*◌, ◌/◌, ◌%◌, ◌<◌, ◌≤◌, ◌^◌, ℕ, zero, suc, Bool, true, false, cond, List, [], ◌∷◌, ◌++◌, length, map, get_or, filter, refl, sym, ap, arith, nat_eq, append_assoc, bit_and}
use Rattle.std.specs.Int.{bit_at}
use Rattle.std.specs.List.{range_with_len, items_where_true}
use Rattle.std.proofs.lemmas.List.{map-id, get_or_past, append-nil}
use Rattle.std.proofs.lemmas.List.Elements.{filter-append}
use Rattle.std.proofs.lemmas.List.FromFn.{filter_of_map_range_with_len_more, map-range_with_len_more, fill_by_all}
use Rattle.std.proofs.lemmas.Nat.Bits.{bit_at-zero, bit_at_ones, shr_and_one}
use Rattle.px_arrays.specs.BitmapOf.{bit_of}
use Rattle.px_selection.proofs.Taken.{where_test}

-- one number more
pub range_more : (a n : ℕ) → range_with_len a (n + 1) ≡ range_with_len a n ++ (a + n) ∷ []
range_more a n =
    let same : ℕ → ℕ = λ k. k in
    sym (map-id (range_with_len a (n + 1))) ∙ map-range_with_len_more same a n (a + n) refl ∙ ap (λ l. l ++ (a + n) ∷ []) (map-id (range_with_len a n))

pub filter_range_more : (p : ℕ → Bool) (a n : ℕ) → filter p (range_with_len a (n + 1)) ≡ filter p (range_with_len a n) ++ cond (p (a + n)) ((a + n) ∷ []) []
filter_range_more p a n =
    let same : ℕ → ℕ = λ k. k in
    ap (filter p) (sym (map-id (range_with_len a (n + 1)))) ∙ filter_of_map_range_with_len_more p same a n (a + n) refl
    ∙ ap (λ l. filter p l ++ cond (p (a + n)) ((a + n) ∷ []) []) (map-id (range_with_len a n))

-- a range in two parts
pub range_append : (a m n b : ℕ) → b ≡ a + m → range_with_len a (m + n) ≡ range_with_len a m ++ range_with_len b n
range_append a zero n b e =
    let none : 0 + n ≡ n = omega arith in
    let same : a ≡ b = omega arith in
    ap (range_with_len a) none ∙ ap (λ k. range_with_len k n) same
range_append a (suc m) n b e =
    let more : suc m + n ≡ suc (m + n) = omega arith in
    ap (range_with_len a) more ∙ ap (λ l. a ∷ l) (range_append (a + 1) m n b (omega arith))

-- two tests that agree on a range
pub filter_agree : (p q : ℕ → Bool) (a n : ℕ) → ((k : ℕ) → a ≤ k → k < a + n → p k ≡ q k) → filter p (range_with_len a n) ≡ filter q (range_with_len a n)
filter_agree p q a zero h = refl
filter_agree p q a (suc n) h =
    ap (λ (b : Bool). cond b (a ∷ filter p (range_with_len (a + 1) n)) (filter p (range_with_len (a + 1) n))) (h a (omega arith) (omega arith))
    ∙ ap (λ l. cond (q a) (a ∷ l) l) (filter_agree p q (a + 1) n (λ k l m. h k (omega arith) (omega arith)))

pub filter_all : (p : ℕ → Bool) (a n : ℕ) → ((k : ℕ) → a ≤ k → k < a + n → p k ≡ true) → filter p (range_with_len a n) ≡ range_with_len a n
filter_all p a zero h = refl
filter_all p a (suc n) h =
    ap (λ (b : Bool). cond b (a ∷ filter p (range_with_len (a + 1) n)) (filter p (range_with_len (a + 1) n))) (h a (omega arith) (omega arith))
    ∙ ap (λ l. a ∷ l) (filter_all p (a + 1) n (λ k l m. h k (omega arith) (omega arith)))

pub filter_none : (p : ℕ → Bool) (a n : ℕ) → ((k : ℕ) → a ≤ k → k < a + n → p k ≡ false) → filter p (range_with_len a n) ≡ []
filter_none p a zero h = refl
filter_none p a (suc n) h =
    ap (λ (b : Bool). cond b (a ∷ filter p (range_with_len (a + 1) n)) (filter p (range_with_len (a + 1) n))) (h a (omega arith) (omega arith))
    ∙ filter_none p (a + 1) n (λ k l m. h k (omega arith) (omega arith))

-- one position more
pub position_more : (old mid new : List ℕ) (start i : ℕ) → mid ≡ old ++ range_with_len start i → new ≡ mid ++ (start + i) ∷ [] → new ≡ old ++ range_with_len start (i + 1)
position_more old mid new start i h e =
    e ∙ ap (λ l. l ++ (start + i) ∷ []) h ∙ append_assoc old (range_with_len start i) ((start + i) ∷ []) ∙ ap (λ l. old ++ l) (sym (range_more start i))

-- one bit of a word more
pub bit_more : (old mid new : List ℕ) (word start i : ℕ) → mid ≡ old ++ filter (λ k. nat_eq (bit_at word (k - start)) 1) (range_with_len start i)
    → new ≡ mid ++ cond (nat_eq (bit_and (word / 2 ^ i) 1) 1) ((start + i) ∷ []) [] → new ≡ old ++ filter (λ k. nat_eq (bit_at word (k - start)) 1) (range_with_len start (i + 1))
bit_more old mid new word start i h e =
    let p : ℕ → Bool = λ k. nat_eq (bit_at word (k - start)) 1 in
    let here : i ≡ (start + i) - start = omega arith in
    let bit : Bool → List ℕ = λ b. cond b ((start + i) ∷ []) [] in
    e ∙ ap (λ l. l ++ bit (nat_eq (bit_and (word / 2 ^ i) 1) 1)) h
    ∙ append_assoc old (filter p (range_with_len start i)) (bit (nat_eq (bit_and (word / 2 ^ i) 1) 1))
    ∙ ap (λ b. old ++ (filter p (range_with_len start i) ++ bit (nat_eq b 1))) (shr_and_one word i ∙ ap (bit_at word) here)
    ∙ ap (λ l. old ++ l) (sym (filter_range_more p start i))

-- all bits of a word
pub bits_all : (old new : List ℕ) (word start i : ℕ) → i ≡ 64 → new ≡ old ++ filter (λ k. nat_eq (bit_at word (k - start)) 1) (range_with_len start i)
    → new ≡ old ++ filter (λ k. nat_eq (bit_at word (k - start)) 1) (range_with_len start 64)
bits_all old new word start i e h = h ∙ ap (λ n. old ++ filter (λ k. nat_eq (bit_at word (k - start)) 1) (range_with_len start n)) e

-- a word without bits
pub none_more : (old : List ℕ) (word start : ℕ) → word ≡ 0 → old ≡ old ++ filter (λ k. nat_eq (bit_at word (k - start)) 1) (range_with_len start 64)
none_more old word start e =
    sym (ap (λ w. old ++ filter (λ k. nat_eq (bit_at w (k - start)) 1) (range_with_len start 64)) e
    ∙ ap (λ l. old ++ l) (filter_none (λ k. nat_eq (bit_at 0 (k - start)) 1) start 64 (λ k h l. ap (λ b. nat_eq b 1) (bit_at-zero (k - start))))
    ∙ append-nil old)

-- a word of which each bit is set
pub all_bits : (word start : ℕ) → word ≡ 2 ^ 64 - 1 → filter (λ k. nat_eq (bit_at word (k - start)) 1) (range_with_len start 64) ≡ range_with_len start 64
all_bits word start e =
    ap (λ w. filter (λ k. nat_eq (bit_at w (k - start)) 1) (range_with_len start 64)) e
    ∙ filter_all (λ k. nat_eq (bit_at (2 ^ 64 - 1) (k - start)) 1) start 64 (λ k h l. ap (λ b. nat_eq b 1) (bit_at_ones 64 (k - start) (omega arith)))

pub all_more : (old new : List ℕ) (word start : ℕ) → word ≡ 2 ^ 64 - 1 → new ≡ old ++ range_with_len start 64
    → new ≡ old ++ filter (λ k. nat_eq (bit_at word (k - start)) 1) (range_with_len start 64)
all_more old new word start e h = h ∙ ap (λ l. old ++ l) (sym (all_bits word start e))

-- a bit of the words is one of its word
bit_in_word : (words : List ℕ) (i k : ℕ) → i * 64 ≤ k → k < i * 64 + 64 → bit_of words k ≡ nat_eq (bit_at (get_or words i 0) (k - i * 64)) 1
unfolding bit_of
bit_in_word words i k h l =
    let word : k / 64 ≡ i = omega arith in
    let bit : k % 64 ≡ k - i * 64 = omega arith in
    ap (λ w. nat_eq (bit_at (get_or words w 0) (k % 64)) 1) word ∙ ap (λ b. nat_eq (bit_at (get_or words i 0) b) 1) bit

-- one word more
pub word_more : (words mid new : List ℕ) (i word start : ℕ) → mid ≡ filter (bit_of words) (range_with_len 0 (i * 64)) → start ≡ i * 64 → word ≡ get_or words i 0
    → new ≡ mid ++ filter (λ k. nat_eq (bit_at word (k - start)) 1) (range_with_len start 64) → new ≡ filter (bit_of words) (range_with_len 0 ((i + 1) * 64))
word_more words mid new i word start before s e h =
    let long : (i + 1) * 64 ≡ i * 64 + 64 = omega arith in
    let first = filter (bit_of words) (range_with_len 0 (i * 64)) in
    h ∙ ap (λ l. l ++ filter (λ k. nat_eq (bit_at word (k - start)) 1) (range_with_len start 64)) before
    ∙ ap (λ m. first ++ filter (λ k. nat_eq (bit_at word (k - m)) 1) (range_with_len m 64)) s
    ∙ ap (λ w. first ++ filter (λ k. nat_eq (bit_at w (k - i * 64)) 1) (range_with_len (i * 64) 64)) e
    ∙ ap (λ l. first ++ l) (sym (filter_agree (bit_of words) (λ k. nat_eq (bit_at (get_or words i 0) (k - i * 64)) 1) (i * 64) 64 (bit_in_word words i)))
    ∙ sym (filter-append (bit_of words) (range_with_len 0 (i * 64)) (range_with_len (i * 64) 64))
    ∙ ap (filter (bit_of words)) (sym (range_append 0 (i * 64) 64 (i * 64) (omega arith)))
    ∙ ap (λ n. filter (bit_of words) (range_with_len 0 n)) (sym long)

-- all words
pub words_all : (words : List ℕ) (bits : List Bool) (n : ℕ) → n ≡ (length bits + 63) / 64 → ((i : ℕ) → bit_of words i ≡ get_or bits i false)
    → filter (bit_of words) (range_with_len 0 (n * 64)) ≡ items_where_true bits (range_with_len 0 (length bits))
words_all words bits n e h =
    let m = length bits in
    let p : ℕ → Bool = λ i. get_or bits i false in
    let long : n * 64 ≡ m + (n * 64 - m) = omega arith in
    filter_agree (bit_of words) p 0 (n * 64) (λ k l r. h k)
    ∙ ap (λ k. filter p (range_with_len 0 k)) long
    ∙ ap (filter p) (range_append 0 m (n * 64 - m) m (omega arith))
    ∙ filter-append p (range_with_len 0 m) (range_with_len m (n * 64 - m))
    ∙ ap (λ l. filter p (range_with_len 0 m) ++ l) (filter_none p m (n * 64 - m) (λ k l r. get_or_past bits k false l))
    ∙ append-nil (filter p (range_with_len 0 m))
    ∙ sym (where_test p (range_with_len 0 m))
    ∙ ap (λ l. items_where_true l (range_with_len 0 m)) (sym (fill_by_all p bits m false refl (λ k l. refl)))
