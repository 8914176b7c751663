-- Rows selected by a mask.
use Rattle.std.proofs.Common.{◌≡◌, ◌∙◌, ℤ, ◌&&◌, ◌||◌, ◌<◌, ℕ, Bool, true, false, not, cond, List, [], ◌∷◌, map, length, sym, ap, refl, Some, None, is_some, option_map, get_or, replicate, zero, suc, arith}
use Rattle.std.specs.List.{range_with_len}
use Rattle.std.proofs.lemmas.List.FromFn.{fill_by_all}
use Rattle.std.proofs.lemmas.List.{length-map, length-replicate}
use Rattle.std.proofs.lemmas.Simd.{length-zip2}
use Rattle.std.specs.Simd.Lanes.{zip2, Each1}
use Rattle.px_semantics.specs.Selections.{select_row, select_all, select_rows, broadcast_length_three}
use Rattle.px_semantics.specs.Logic.{is_true}
use Rattle.px_semantics.specs.Rows.{Row, TypedRows, BooleanValue, StringValue, IntegerValue, entry, boolean_entry, IsRowOf, stretch}
use Rattle.px_types.specs.declared.value_type.ValueType.TheVariants.{Boolean}
use Rattle.px_semantics.proofs.Joining.{of_type}
use Rattle.px_kernels.specs.SelectedPlaces.{selected_bits, selected_places}

pub select_length : (ms xs ys : List Row) → length ms ≡ length xs → length xs ≡ length ys → length (select_all ms xs ys) ≡ length xs
select_length [] [] ys p q = refl
select_length [] (x ∷ xs) ys p q = cc
select_length (m ∷ ms) [] ys p q = cc
select_length (m ∷ ms) (x ∷ xs) [] p q = cc
select_length (m ∷ ms) (x ∷ xs) (y ∷ ys) p q = ap suc (select_length ms xs ys (omega arith) (omega arith))

pub select_at : (ms xs ys : List Row) (i : ℕ) → length ms ≡ length xs → length xs ≡ length ys → i < length xs
    → select_row (is_true (get_or ms i None)) (get_or xs i None) (get_or ys i None) ≡ get_or (select_all ms xs ys) i None
select_at ms [] ys i p q h = absurd (omega arith)
select_at [] (x ∷ xs) ys i p q h = cc
select_at (m ∷ ms) (x ∷ xs) [] i p q h = cc
select_at (m ∷ ms) (x ∷ xs) (y ∷ ys) zero p q h = refl
select_at (m ∷ ms) (x ∷ xs) (y ∷ ys) (suc i) p q h = select_at ms xs ys i (omega arith) (omega arith) (omega arith)

pick_true : (p q : Bool) → (p && true) || (q && false) ≡ p
pick_true true true = refl
pick_true true false = refl
pick_true false true = refl
pick_true false false = refl

pick_false : (p q : Bool) → (p && false) || (q && true) ≡ q
pick_false true true = refl
pick_false true false = refl
pick_false false true = refl
pick_false false false = refl

restored : (x : Row) → IsRowOf Boolean x → boolean_entry (is_true x) (is_some x) ≡ x
restored (Some (BooleanValue true)) h = refl
restored (Some (BooleanValue false)) h = refl
restored (Some (StringValue s)) h = absurd h
restored (Some (IntegerValue z)) h = absurd h
restored None h = refl

select_bit : (b : Bool) (x y : Row) → IsRowOf Boolean x → IsRowOf Boolean y
    → boolean_entry ((is_true x && b) || (is_true y && not b)) ((is_some x && b) || (is_some y && not b)) ≡ select_row b x y
select_bit true x y p q = ap (λ t. boolean_entry t ((is_some x && true) || (is_some y && false))) (pick_true (is_true x) (is_true y)) ∙ ap (boolean_entry (is_true x)) (pick_true (is_some x) (is_some y)) ∙ restored x p
select_bit false x y p q = ap (λ t. boolean_entry t ((is_some x && false) || (is_some y && true))) (pick_false (is_true x) (is_true y)) ∙ ap (boolean_entry (is_true y)) (pick_false (is_some x) (is_some y)) ∙ restored y q

-- Booleans selected bitmap by bitmap
pub select_bitmaps : (ms xs ys : List Row) → Each1 (IsRowOf Boolean) xs → Each1 (IsRowOf Boolean) ys
    → zip2 boolean_entry (selected_bits (map is_true ms) (map is_true xs) (map is_true ys)) (selected_bits (map is_true ms) (map is_some xs) (map is_some ys)) ≡ select_all ms xs ys
select_bitmaps [] [] ys p q = refl
select_bitmaps [] (x ∷ xs) ys p q = refl
select_bitmaps (m ∷ ms) [] ys p q = refl
select_bitmaps (m ∷ ms) (x ∷ xs) [] p q = refl
select_bitmaps (m ∷ ms) (x ∷ xs) (y ∷ ys) p q = let here = select_bit (is_true m) x y p.0 q.0 in let rest = select_bitmaps ms xs ys p.1 q.1 in cc

two_long : (f : Bool → Bool → Bool) (us vs : List Bool) (n : ℕ) → length us ≡ n → length vs ≡ n → length (zip2 f us vs) ≡ n
two_long f us vs n p q = length-zip2 f us vs (p ∙ sym q) ∙ p

pub selected_long : (ms xs ys : List Bool) (n : ℕ) → length ms ≡ n → length xs ≡ n → length ys ≡ n → length (selected_bits ms xs ys) ≡ n
selected_long ms xs ys n p q r =
    two_long (λ a b. a || b) (zip2 (λ a b. a && b) xs ms) (zip2 (λ a b. a && b) ys (map not ms)) n
    (two_long (λ a b. a && b) xs ms n q p) (two_long (λ a b. a && b) ys (map not ms) n r (length-map ms not ∙ p))

pub sides_long : (ms xs ys : List Bool) → length ms ≡ length xs → length xs ≡ length ys → length (zip2 (λ a b. a && b) xs ms) ≡ length (zip2 (λ a b. a && b) ys (map not ms))
sides_long ms xs ys p q =
    two_long (λ a b. a && b) xs ms (length xs) refl p ∙ sym (two_long (λ a b. a && b) ys (map not ms) (length xs) (sym q) (length-map ms not ∙ p))

cond_none : (b : Bool) (x : Row) → x ≡ None → cond b x x ≡ x
cond_none true x h = refl
cond_none false x h = refl

nulls_chosen : (n : ℕ) (ms : List Row) → length ms ≡ n → select_all ms (replicate n None) (replicate n None) ≡ replicate n None
nulls_chosen zero [] h = refl
nulls_chosen zero (m ∷ ms) h = cc
nulls_chosen (suc n) [] h = cc
nulls_chosen (suc n) (m ∷ ms) h = let here = cond_none (is_true m) None refl in let rest = nulls_chosen n ms (omega arith) in cc

-- nulls are selected of nulls
pub null_rows_chosen : (m n : ℕ) (ms xs ys : List Row) → xs ≡ replicate m None → ys ≡ replicate n None → length ms ≡ length xs → length xs ≡ length ys
    → replicate m None ≡ select_all ms xs ys
null_rows_chosen m n ms xs ys p q h k =
    let none : Row = None in
    let same_length : length xs ≡ m = ap length p ∙ length-replicate m none in
    let same : m ≡ n = sym same_length ∙ k ∙ ap length q ∙ length-replicate n none in
    sym (nulls_chosen m ms (h ∙ same_length)) ∙ ap (λ l. select_all ms l (replicate m None)) (sym p) ∙ ap (λ l. select_all ms xs l) (ap (λ k. replicate k None) same ∙ sym q)

pub length-select_bits : {A : Type 0} (ms : List Bool) (xs ys : List A) → length ms ≡ length xs → length xs ≡ length ys → length (selected_places ms xs ys) ≡ length xs
length-select_bits [] [] ys p q = refl
length-select_bits [] (x ∷ xs) ys p q = cc
length-select_bits (m ∷ ms) [] ys p q = refl
length-select_bits (m ∷ ms) (x ∷ xs) [] p q = cc
length-select_bits (m ∷ ms) (x ∷ xs) (y ∷ ys) p q = ap suc (length-select_bits ms xs ys (omega arith) (omega arith))

-- what is selected at a place
picked_at : {A : Type 0} (ms : List Bool) (xs ys : List A) (d : A) (i : ℕ) → length ms ≡ length xs → length xs ≡ length ys
    → get_or (selected_places ms xs ys) i d ≡ cond (get_or ms i false) (get_or xs i d) (get_or ys i d)
picked_at [] [] [] d i p q = refl
picked_at [] [] (y ∷ ys) d i p q = cc
picked_at [] (x ∷ xs) ys d i p q = cc
picked_at (m ∷ ms) [] ys d i p q = cc
picked_at (m ∷ ms) (x ∷ xs) [] d i p q = cc
picked_at (m ∷ ms) (x ∷ xs) (y ∷ ys) d zero p q = refl
picked_at (m ∷ ms) (x ∷ xs) (y ∷ ys) d (suc i) p q = picked_at ms xs ys d i (omega arith) (omega arith)

-- selected place by place
pub picked_by_place : {A : Type 0} (ms : List Bool) (xs ys : List A) (d : A) (n : ℕ) → n ≡ length xs → length ms ≡ length xs → length xs ≡ length ys
    → map (λ i. cond (get_or ms i false) (get_or xs i d) (get_or ys i d)) (range_with_len 0 n) ≡ selected_places ms xs ys
picked_by_place ms xs ys d n e p q =
    sym (fill_by_all (λ i. cond (get_or ms i false) (get_or xs i d) (get_or ys i d)) (selected_places ms xs ys) n d (length-select_bits ms xs ys p q ∙ sym e) (λ k h. picked_at ms xs ys d k p q))

pub Each1-select_bits : {A : Type 0} (P : A → Type 0) (ms : List Bool) (xs ys : List A) → Each1 P xs → Each1 P ys → Each1 P (selected_places ms xs ys)
Each1-select_bits P [] xs ys p q = tt
Each1-select_bits P (m ∷ ms) [] ys p q = tt
Each1-select_bits P (m ∷ ms) (x ∷ xs) [] p q = tt
Each1-select_bits P (true ∷ ms) (x ∷ xs) (y ∷ ys) p q = (p.0, Each1-select_bits P ms xs ys p.1 q.1)
Each1-select_bits P (false ∷ ms) (x ∷ xs) (y ∷ ys) p q = (q.0, Each1-select_bits P ms xs ys p.1 q.1)

pick_entry : (b u v : Bool) (x y : ℤ) → entry ((u && b) || (v && not b)) (cond b x y) ≡ select_row b (entry u x) (entry v y)
pick_entry true u v x y = ap (λ w. entry w x) (pick_true u v)
pick_entry false u v x y = ap (λ w. entry w y) (pick_false u v)

-- numbers selected bitmap by bitmap
pub select_entries : (ms : List Row) (us vs : List Bool) (xs ys : List ℤ) → length us ≡ length xs → length vs ≡ length ys
    → zip2 entry (selected_bits (map is_true ms) us vs) (selected_places (map is_true ms) xs ys) ≡ select_all ms (zip2 entry us xs) (zip2 entry vs ys)
select_entries [] [] vs xs ys p q = refl
select_entries [] (u ∷ us) vs xs ys p q = refl
select_entries (m ∷ ms) [] vs [] ys p q = refl
select_entries (m ∷ ms) [] vs (x ∷ xs) ys p q = cc
select_entries (m ∷ ms) (u ∷ us) vs [] ys p q = cc
select_entries (m ∷ ms) (u ∷ us) [] (x ∷ xs) [] p q = refl
select_entries (m ∷ ms) (u ∷ us) [] (x ∷ xs) (y ∷ ys) p q = cc
select_entries (m ∷ ms) (u ∷ us) (v ∷ vs) (x ∷ xs) [] p q = cc
select_entries (m ∷ ms) (u ∷ us) (v ∷ vs) (x ∷ xs) (y ∷ ys) p q =
    let here = pick_entry (is_true m) u v x y in let rest = select_entries ms us vs xs ys (omega arith) (omega arith) in cc

pub choice_gives : (mask a b : TypedRows) (n : ℕ) → broadcast_length_three (length mask.rows) (length a.rows) (length b.rows) ≡ Some n
    → Some (of_type a.value_type (select_all (stretch n mask.rows) (stretch n a.rows) (stretch n b.rows))) ≡ select_rows mask a b
unfolding select_rows
choice_gives mask a b n h = sym (ap (option_map (λ n. of_type a.value_type (select_all (stretch n mask.rows) (stretch n a.rows) (stretch n b.rows)))) h)

pub choice_none : (mask a b : TypedRows) → broadcast_length_three (length mask.rows) (length a.rows) (length b.rows) ≡ None → select_rows mask a b ≡ None
unfolding select_rows
choice_none mask a b h = ap (option_map (λ n. of_type a.value_type (select_all (stretch n mask.rows) (stretch n a.rows) (stretch n b.rows)))) h

-- the bitmaps and the numbers that a mask selects, as rows
pub select_made : {A : Type 0} (n : A → ℤ) (ms rows others : List Row) (xs ys zs : List A) (flags us vs valid : List Bool)
    → flags ≡ map is_true ms → us ≡ map is_some rows → vs ≡ map is_some others → length xs ≡ length rows → length ys ≡ length others
    → zip2 entry (map is_some rows) (map n xs) ≡ rows → zip2 entry (map is_some others) (map n ys) ≡ others
    → map n zs ≡ selected_places flags (map n xs) (map n ys) → valid ≡ selected_bits flags us vs → zip2 entry valid (map n zs) ≡ select_all ms rows others
select_made n ms rows others xs ys zs flags us vs valid f u v same_length also p q z w =
    let bitmap : valid ≡ selected_bits (map is_true ms) (map is_some rows) (map is_some others) = w ∙ rw (f, u, v) refl in
    let numbers : map n zs ≡ selected_places (map is_true ms) (map n xs) (map n ys) = z ∙ ap (λ l. selected_places l (map n xs) (map n ys)) f in
    ap (λ l. zip2 entry l (map n zs)) bitmap ∙ ap (λ l. zip2 entry (selected_bits (map is_true ms) (map is_some rows) (map is_some others)) l) numbers
    ∙ select_entries ms (map is_some rows) (map is_some others) (map n xs) (map n ys)
    (length-map rows is_some ∙ sym same_length ∙ sym (length-map xs n)) (length-map others is_some ∙ sym also ∙ sym (length-map ys n))
    ∙ ap (λ l. select_all ms l (zip2 entry (map is_some others) (map n ys))) p ∙ ap (select_all ms rows) q
