-- The items whose bit is set, word by word and bit by bit.
use Rattle.std.proofs.Common.{◌≡◌, ◌∙◌, ◌<◌, ◌≤◌, ◌+◌, ◌-◌, ◌*◌, ◌/◌, ◌%◌, ◌^◌, ◌++◌, ℕ, ℤ, Bool, true, false, not, cond, List, [], ◌∷◌, length, map, take, drop, get_or, count_by, bit_and, min, sym, ap, refl, arith, zero, suc, nat_eq, is_some, inl, inr}
use Rattle.std.specs.List.{fold, items_where_true, range_with_len}
use Rattle.std.specs.Simd.Lanes.{zip2}
use Rattle.std.proofs.Math.Seq.{take-add}
use Rattle.std.proofs.lemmas.List.{same_lists, length-take, length-drop, get_or-take, get_or-drop, take_all, length-map, take-map, drop-map}
use Rattle.std.proofs.lemmas.List.FromFn.{get_or-map-range_with_len}
use Rattle.std.proofs.lemmas.List.Sums.{fold-append, sum_by-cons, fold_more}
use Rattle.std.proofs.lemmas.Nat.Bits.{bit_at_ones, shr_and_one}
use Rattle.std.specs.Int.{bit_at}
use Rattle.px_arrays.specs.BitmapOf.{bit_of, bits_of}
use Rattle.px_arrays.proofs.Bitmaps.{length-bits_of, get_or-bits_of}
use Rattle.px_semantics.specs.Rows.{entry, Row}
use Rattle.px_semantics.specs.Aggregates.{numbers_of}
use Rattle.px_aggregates.specs.Folds.{set_numbers, fold_into}
use Rattle.std.proofs.lemmas.Bool.{cases_lt}
use Rattle.px_types.specs.Integers.{into}
use Rattle.px_types.specs.declared.value_type.ValueType.{ValueType}

-- the numbers of rows, by their validity
pub entry_numbers : (us : List Bool) (zs : List ℤ) → numbers_of (zip2 entry us zs) ≡ items_where_true us zs
entry_numbers [] zs = refl
entry_numbers (u ∷ us) [] = refl
entry_numbers (true ∷ us) (z ∷ zs) = ap (λ l. z ∷ l) (entry_numbers us zs)
entry_numbers (false ∷ us) (z ∷ zs) = entry_numbers us zs

-- where all bits are set, all items are there
pub all_set : {A : Type 0} (us : List Bool) (zs : List A) → length us ≡ length zs → ((i : ℕ) → i < length us → get_or us i false ≡ true) → items_where_true us zs ≡ zs
all_set [] [] h p = refl
all_set [] (z ∷ zs) h p = absurd (omega arith)
all_set (u ∷ us) [] h p = absurd (omega arith)
all_set (true ∷ us) (z ∷ zs) h p = ap (λ l. z ∷ l) (all_set us zs (omega arith) (λ i q. p (suc i) (omega arith)))
all_set (false ∷ us) (z ∷ zs) h p = let e : false ≡ true = p 0 (omega arith) in cc

no_zeros : (us : List Bool) → count_by not us ≡ 0 → (i : ℕ) → i < length us → get_or us i false ≡ true
no_zeros [] e i h = absurd (omega arith)
no_zeros (true ∷ us) e zero h = refl
no_zeros (true ∷ us) e (suc i) h = no_zeros us (omega (arith, sum_by-cons (λ b. cond (not b) 1 0) true us)) i (omega arith)
no_zeros (false ∷ us) e i h = absurd (omega (arith, sum_by-cons (λ b. cond (not b) 1 0) false us))

pub none_clear : {A : Type 0} (us : List Bool) (zs : List A) → length us ≡ length zs → count_by not us ≡ 0 → items_where_true us zs ≡ zs
none_clear us zs h e = all_set us zs h (no_zeros us e)

items_append : {A : Type 0} (us vs : List Bool) (xs ys : List A) → length us ≡ length xs → items_where_true (us ++ vs) (xs ++ ys) ≡ items_where_true us xs ++ items_where_true vs ys
items_append [] vs [] ys h = refl
items_append [] vs (x ∷ xs) ys h = absurd (omega arith)
items_append (u ∷ us) vs [] ys h = absurd (omega arith)
items_append (true ∷ us) vs (x ∷ xs) ys h = ap (λ l. x ∷ l) (items_append us vs xs ys (omega arith))
items_append (false ∷ us) vs (x ∷ xs) ys h = items_append us vs xs ys (omega arith)

-- a part more
fold_part : {A B : Type 0} (g : B → A → B) (a : B) (us : List Bool) (xs : List A) (m k : ℕ) → length us ≡ length xs
    → fold g a (items_where_true (take (m + k) us) (take (m + k) xs)) ≡ fold g (fold g a (items_where_true (take m us) (take m xs))) (items_where_true (take k (drop m us)) (take k (drop m xs)))
fold_part g a us xs m k h =
    ap (λ l. fold g a (items_where_true l (take (m + k) xs))) (take-add m k us)
    ∙ ap (λ l. fold g a (items_where_true (take m us ++ take k (drop m us)) l)) (take-add m k xs)
    ∙ ap (fold g a) (items_append (take m us) (take k (drop m us)) (take m xs) (take k (drop m xs)) (omega (arith, length-take m us, length-take m xs)))
    ∙ fold-append g a (items_where_true (take m us) (take m xs)) (items_where_true (take k (drop m us)) (take k (drop m xs)))

-- an item more
pub fold_more_set : {A B : Type 0} (g : B → A → B) (a : B) (us : List Bool) (xs : List A) (i : ℕ) (d : A) → i < length us → i < length xs
    → fold g a (items_where_true (take (suc i) us) (take (suc i) xs))
    ≡ cond (get_or us i false) (g (fold g a (items_where_true (take i us) (take i xs))) (get_or xs i d)) (fold g a (items_where_true (take i us) (take i xs)))
fold_more_set g a [] xs i d h l = absurd (omega arith)
fold_more_set g a (u ∷ us) [] i d h l = absurd (omega arith)
fold_more_set g a (true ∷ us) (x ∷ xs) zero d h l = refl
fold_more_set g a (false ∷ us) (x ∷ xs) zero d h l = refl
fold_more_set g a (true ∷ us) (x ∷ xs) (suc i) d h l = fold_more_set g (g a x) us xs i d (omega arith) (omega arith)
fold_more_set g a (false ∷ us) (x ∷ xs) (suc i) d h l = fold_more_set g a us xs i d (omega arith) (omega arith)

-- bit k of a word alone
bit_alone : (word k : ℕ) → k < 64 → bit_of (word ∷ []) k ≡ nat_eq (bit_at word k) 1
unfolding bit_of
bit_alone word k h =
    let first : k / 64 ≡ 0 = omega arith in
    let same : k % 64 ≡ k = omega arith in
    ap (λ n. nat_eq (bit_at (get_or (word ∷ []) n 0) (k % 64)) 1) first ∙ ap (λ n. nat_eq (bit_at word n) 1) same

-- the test of a bit of a word
pub bit_tested : (word k : ℕ) → k < 64 → nat_eq (bit_and (word / 2 ^ k) 1) 1 ≡ bit_of (word ∷ []) k
bit_tested word k h = ap (λ n. nat_eq n 1) (shr_and_one word k) ∙ sym (bit_alone word k h)

pub applied_where_set : (b c : Bool) (x y z : ℤ) → b ≡ c → b ≡ true → z ≡ x → z ≡ cond c x y
applied_where_set b c x y z e t p = p ∙ ap (λ d. cond d x y) (sym t ∙ e)

pub left_out : (b c : Bool) (x y : ℤ) → b ≡ c → b ≡ false → y ≡ cond c x y
left_out b c x y e f = ap (λ d. cond d x y) (sym f ∙ e)

-- the bits of word number `at` are a part of all bits
part_bits : (words : List ℕ) (n at word m : ℕ) → word ≡ get_or words at 0 → m ≡ min 64 (n - 64 * at) → take 64 (drop (64 * at) (bits_of words n)) ≡ bits_of (word ∷ []) m
unfolding bit_of
part_bits words n at word m e h =
    let bits : List Bool = bits_of words n in
    let many : length (take 64 (drop (64 * at) bits)) ≡ m = omega (arith, length-take 64 (drop (64 * at) bits), length-drop (64 * at) bits, length-bits_of words n) in
    same_lists (take 64 (drop (64 * at) bits)) (bits_of (word ∷ []) m) (many ∙ sym (length-bits_of (word ∷ []) m))
    (λ k d p.
    let below : k < m = omega arith in
    let place : (64 * at + k) / 64 ≡ at = omega arith in
    let within : (64 * at + k) % 64 ≡ k = omega arith in
    get_or-take 64 (drop (64 * at) bits) k d (omega arith)
    ∙ get_or-drop (64 * at) bits k d
    ∙ get_or-map-range_with_len (bit_of words) 0 n (64 * at + k) (64 * at + k) d (omega arith) (omega arith)
    ∙ ap (λ j. nat_eq (bit_at (get_or words j 0) ((64 * at + k) % 64)) 1) place
    ∙ ap (λ w. nat_eq (bit_at w ((64 * at + k) % 64)) 1) (sym e)
    ∙ ap (λ j. nat_eq (bit_at word j) 1) within
    ∙ sym (bit_alone word k (omega arith))
    ∙ sym (get_or-map-range_with_len (bit_of (word ∷ [])) 0 m k k d below (omega arith)))

-- a word more
pub fold_word_more : {B : Type 0} (g : B → ℤ → B) (a : B) (words : List ℕ) (zs part : List ℤ) (at word : ℕ) → word ≡ get_or words at 0 → part ≡ take 64 (drop (64 * at) zs)
    → fold g (fold g a (items_where_true (take (64 * at) (bits_of words (length zs))) (take (64 * at) zs))) (set_numbers (word ∷ []) part)
    ≡ fold g a (items_where_true (take (64 * (at + 1)) (bits_of words (length zs))) (take (64 * (at + 1)) zs))
fold_word_more g a words zs part at word e h =
    let bits : List Bool = bits_of words (length zs) in
    let before = fold g a (items_where_true (take (64 * at) bits) (take (64 * at) zs)) in
    let many : length part ≡ min 64 (length zs - 64 * at) = omega (arith, ap length h, length-take 64 (drop (64 * at) zs), length-drop (64 * at) zs) in
    let next : 64 * at + 64 ≡ 64 * (at + 1) = omega arith in
    ap (λ l. fold g before (items_where_true l part)) (sym (part_bits words (length zs) at word (length part) e many))
    ∙ ap (λ l. fold g before (items_where_true (take 64 (drop (64 * at) bits)) l)) h
    ∙ sym (fold_part g a bits zs (64 * at) 64 (length-bits_of words (length zs)))
    ∙ ap (λ n. fold g a (items_where_true (take n bits) (take n zs))) next

-- all words
pub fold_all_words : {B : Type 0} (g : B → ℤ → B) (a : B) (words : List ℕ) (zs : List ℤ) (n : ℕ) → length zs ≤ n
    → fold g a (items_where_true (take n (bits_of words (length zs))) (take n zs)) ≡ fold g a (set_numbers words zs)
fold_all_words g a words zs n h =
    ap (λ l. fold g a (items_where_true l (take n zs))) (take_all n (bits_of words (length zs)) (omega (arith, length-bits_of words (length zs))))
    ∙ ap (λ l. fold g a (items_where_true (bits_of words (length zs)) l)) (take_all n zs h)

-- a word of ones
pub all_ones : (zs : List ℤ) (word : ℕ) → length zs ≤ 64 → word ≡ 2 ^ 64 - 1 → set_numbers (word ∷ []) zs ≡ zs
all_ones zs word h e =
    all_set (bits_of (word ∷ []) (length zs)) zs (length-bits_of (word ∷ []) (length zs))
    (λ i p.
    let below : i < length zs = omega (arith, length-bits_of (word ∷ []) (length zs)) in
    get_or-bits_of (word ∷ []) (length zs) i below ∙ bit_alone word i (omega arith)
    ∙ ap (λ w. nat_eq (bit_at w i) 1) e ∙ ap (λ b. nat_eq b 1) (bit_at_ones 64 i (omega arith)))

-- the words of a bitmap that is seen as bits
pub words_bits : (words : List ℕ) (us : List Bool) (n : ℕ) → n ≡ length us → ((i : ℕ) → bit_of words i ≡ get_or us i false) → bits_of words n ≡ us
words_bits words us n e h =
    same_lists (bits_of words n) us (length-bits_of words n ∙ e)
    (λ k d p.
    let below : k < n = omega (arith, length-bits_of words n) in
    let other : k < length us = omega arith in
    get_or-map-range_with_len (bit_of words) 0 n k k d below (omega arith) ∙ h k ∙ any_default us k false d other)
  where
    any_default : (us : List Bool) (k : ℕ) (c d : Bool) → k < length us → get_or us k c ≡ get_or us k d
    any_default [] k c d h = absurd (omega arith)
    any_default (u ∷ us) zero c d h = refl
    any_default (u ∷ us) (suc k) c d h = any_default us k c d (omega arith)

map_at : {A : Type 0} (m : A → ℤ) (xs : List A) (i : ℕ) (x : A) → x ≡ get_or xs i x → i < length xs → m x ≡ get_or (map m xs) i (m x)
map_at m [] i x e h = absurd (omega arith)
map_at m (y ∷ ys) zero x e h = ap m e
map_at m (y ∷ ys) (suc i) x e h = map_at m ys i x e (omega arith)

-- a step of a loop over all numbers
pub fold_next : {A : Type 0} (k : ValueType) (f : ℤ → ℤ → ℤ) (m : A → ℤ) (start answer next : ℤ) (xs : List A) (i : ℕ) (x : A) → i < length xs → x ≡ get_or xs i x
    → answer ≡ fold_into k f start (take i (map m xs)) → next ≡ f answer (into k (m x)) → next ≡ fold_into k f start (take (i + 1) (map m xs))
fold_next k f m start answer next xs i x h e p q =
    q ∙ ap (λ a. f a (into k (m x))) p ∙ ap (λ z. f (fold_into k f start (take i (map m xs))) (into k z)) (map_at m xs i x e h)
    ∙ sym (fold_more (λ a b. f a (into k b)) start (map m xs) i (m x) (omega (arith, length-map xs m)))

-- a step of a loop over the numbers whose bit is set
pub fold_next_set : {A : Type 0} (k : ValueType) (f : ℤ → ℤ → ℤ) (m : A → ℤ) (start answer next : ℤ) (word : ℕ) (xs : List A) (i : ℕ) (x : A) → i < length xs → x ≡ get_or xs i x
    → answer ≡ fold_into k f start (items_where_true (take i (bits_of (word ∷ []) (length (map m xs)))) (take i (map m xs)))
    → next ≡ cond (bit_of (word ∷ []) i) (f answer (into k (m x))) answer
    → next ≡ fold_into k f start (items_where_true (take (i + 1) (bits_of (word ∷ []) (length (map m xs)))) (take (i + 1) (map m xs)))
fold_next_set k f m start answer next word xs i x h e p q =
    let zs : List ℤ = map m xs in
    let us : List Bool = bits_of (word ∷ []) (length zs) in
    let acc : ℤ = fold_into k f start (items_where_true (take i us) (take i zs)) in
    let below : i < length zs = omega (arith, length-map xs m) in
    let one : suc i ≡ i + 1 = omega arith in
    q ∙ ap (λ a. cond (bit_of (word ∷ []) i) (f a (into k (m x))) a) p
    ∙ ap (λ z. cond (bit_of (word ∷ []) i) (f acc (into k z)) acc) (map_at m xs i x e h)
    ∙ ap (λ b. cond b (f acc (into k (get_or zs i (m x)))) acc) (sym (get_or-bits_of (word ∷ []) (length zs) i below))
    ∙ sym (fold_more_set (λ a b. f a (into k b)) start us zs i (m x) (omega (arith, length-bits_of (word ∷ []) (length zs))) below)
    ∙ ap (λ n. fold_into k f start (items_where_true (take n us) (take n zs))) one

take_short : {A : Type 0} (n : ℕ) (l : List A) → n ≡ min 64 (length l) → take n l ≡ take 64 l
take_short n l e = elim (cases_lt 64 (length l)) [
  | inl p ↦ let full : n ≡ 64 = omega arith in ap (λ k. take k l) full
  | inr p ↦ take_all n l (omega arith) ∙ sym (take_all 64 l p)
]

-- the numbers of part number `at`
pub part_numbers : {A : Type 0} (m : A → ℤ) (xs : List A) (at e : ℕ) → e ≡ min (length xs) (at * 64 + 64) → map m (take (e - at * 64) (drop (at * 64) xs)) ≡ take 64 (drop (64 * at) (map m xs))
part_numbers m xs at e h =
    let same : at * 64 ≡ 64 * at = omega arith in
    sym (take-map m (e - at * 64) (drop (at * 64) xs))
    ∙ ap (take (e - at * 64)) (sym (drop-map m (at * 64) xs))
    ∙ take_short (e - at * 64) (drop (at * 64) (map m xs)) (omega (arith, length-drop (at * 64) (map m xs), length-map xs m))
    ∙ ap (λ n. take 64 (drop n (map m xs))) same

-- the numbers of rows that are all values
pub all_valid : {A : Type 0} (m : A → ℤ) (rows : List Row) (xs : List A) → zip2 entry (map is_some rows) (map m xs) ≡ rows → length xs ≡ length rows → count_by not (map is_some rows) ≡ 0
    → map m xs ≡ numbers_of rows
all_valid m rows xs e h z =
    sym (none_clear (map is_some rows) (map m xs) (length-map rows is_some ∙ sym h ∙ sym (length-map xs m)) z) ∙ sym (entry_numbers (map is_some rows) (map m xs)) ∙ ap numbers_of e

-- the numbers of rows, by the words of their validity
pub valid_numbers : {A : Type 0} (m : A → ℤ) (rows : List Row) (xs : List A) (words : List ℕ) → zip2 entry (map is_some rows) (map m xs) ≡ rows → length xs ≡ length rows
    → ((i : ℕ) → bit_of words i ≡ get_or (map is_some rows) i false) → set_numbers words (map m xs) ≡ numbers_of rows
valid_numbers m rows xs words e h b =
    ap (λ l. items_where_true l (map m xs)) (words_bits words (map is_some rows) (length (map m xs)) (length-map xs m ∙ h ∙ sym (length-map rows is_some)) b)
    ∙ sym (entry_numbers (map is_some rows) (map m xs)) ∙ ap numbers_of e

-- the bits of words, by an equal list
pub bits_same : (words : List ℕ) (us vs : List Bool) → us ≡ vs → ((i : ℕ) → bit_of words i ≡ get_or us i false) → (i : ℕ) → bit_of words i ≡ get_or vs i false
bits_same words us vs e h i = h i ∙ ap (λ l. get_or l i false) e

-- a step of a loop over words
pub words_step : {A : Type 0} (k : ValueType) (f : ℤ → ℤ → ℤ) (m : A → ℤ) (start answer next : ℤ) (words : List ℕ) (xs : List A) (at e : ℕ) → e ≡ min (length xs) (at * 64 + 64)
    → answer ≡ fold_into k f start (items_where_true (take (64 * at) (bits_of words (length (map m xs)))) (take (64 * at) (map m xs)))
    → next ≡ fold_into k f answer (set_numbers (get_or words at 0 ∷ []) (map m (take (e - at * 64) (drop (at * 64) xs))))
    → next ≡ fold_into k f start (items_where_true (take (64 * (at + 1)) (bits_of words (length (map m xs)))) (take (64 * (at + 1)) (map m xs)))
words_step k f m start answer next words xs at e h p q =
    let part : List ℤ = map m (take (e - at * 64) (drop (at * 64) xs)) in
    q ∙ ap (λ a. fold_into k f a (set_numbers (get_or words at 0 ∷ []) part)) p
    ∙ fold_word_more (λ a b. f a (into k b)) start words (map m xs) part at (get_or words at 0) refl (part_numbers m xs at e h)
