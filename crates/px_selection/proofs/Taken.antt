-- Elements at given positions, and those where bits are set.
use Rattle.std.proofs.Common.{◌≡◌, ◌∙◌, ◌+◌, ◌-◌, ◌<◌, ◌≤◌, ℕ, ℤ, zero, suc, Bool, true, false, not, cond, List, [], ◌∷◌, ◌++◌, Some, None, is_some, length, map, get_or, replicate, reverse, take, drop, filter, refl, sym, ap, subst, arith, count_by}
use Rattle.std.specs.List.{items_where_true, range_with_len}
use Rattle.std.specs.Simd.Lanes.{zip2, Each1}
use Rattle.std.proofs.lemmas.List.{length-map, length-reverse, length-take-le, get_or-reverse, take_more, map-id}
use Rattle.std.proofs.lemmas.List.Sums.{count_by-le-length, length-filter}
use Rattle.std.proofs.lemmas.List.FromFn.{fill_by_all, length-range_with_len, map-range_with_len_more}
use Rattle.px_arrays.proofs.Bitmaps.{maps}
use Rattle.px_column.proofs.KernelRows.{nulls_valid}
use Rattle.px_semantics.specs.Logic.{is_true}
use Rattle.px_semantics.specs.Rows.{Row, BooleanValue, StringValue, IntegerValue, entry, boolean_entry, IsRowOf}
use Rattle.px_types.specs.declared.value_type.ValueType.TheVariants.{Boolean}
use Rattle.px_selection.specs.Positions.{at_positions, set_positions}

zip2_at : {A B C : Type 0} (f : A → B → C) (d : A) (e : B) (xs : List A) (ys : List B) (k : ℕ) → length xs ≡ length ys → f (get_or xs k d) (get_or ys k e) ≡ get_or (zip2 f xs ys) k (f d e)
zip2_at f d e [] [] k h = refl
zip2_at f d e [] (y ∷ ys) k h = cc
zip2_at f d e (x ∷ xs) [] k h = cc
zip2_at f d e (x ∷ xs) (y ∷ ys) zero h = refl
zip2_at f d e (x ∷ xs) (y ∷ ys) (suc k) h = zip2_at f d e xs ys k (omega arith)

-- two lists that are put together are taken together
pub zip2-at_positions : {A B C : Type 0} (f : A → B → C) (d : A) (e : B) (xs : List A) (ys : List B) (ks : List ℕ) → length xs ≡ length ys
    → zip2 f (at_positions d xs ks) (at_positions e ys ks) ≡ at_positions (f d e) (zip2 f xs ys) ks
zip2-at_positions f d e xs ys [] h = refl
zip2-at_positions f d e xs ys (k ∷ ks) h =
    ap (λ r. r ∷ zip2 f (at_positions d xs ks) (at_positions e ys ks)) (zip2_at f d e xs ys k h)
    ∙ ap (λ l. get_or (zip2 f xs ys) k (f d e) ∷ l) (zip2-at_positions f d e xs ys ks h)

pub length-at_positions : {A : Type 0} (d : A) (xs : List A) (ks : List ℕ) → length (at_positions d xs ks) ≡ length ks
length-at_positions d xs ks = length-map ks (λ position. get_or xs position d)

map_at : {A B : Type 0} (n : A → B) (d : A) (xs : List A) (k : ℕ) → n (get_or xs k d) ≡ get_or (map n xs) k (n d)
map_at n d [] k = refl
map_at n d (x ∷ xs) zero = refl
map_at n d (x ∷ xs) (suc k) = map_at n d xs k

pub map-at_positions : {A B : Type 0} (n : A → B) (d : A) (xs : List A) (ks : List ℕ) → map n (at_positions d xs ks) ≡ at_positions (n d) (map n xs) ks
map-at_positions n d xs [] = refl
map-at_positions n d xs (k ∷ ks) =
    ap (λ r. r ∷ map n (at_positions d xs ks)) (map_at n d xs k) ∙ ap (λ l. get_or (map n xs) k (n d) ∷ l) (map-at_positions n d xs ks)

each_at : {A : Type 0} (P : A → Type 0) (d : A) (xs : List A) (k : ℕ) → P d → Each1 P xs → P (get_or xs k d)
each_at P d [] k p q = p
each_at P d (x ∷ xs) zero p q = q.0
each_at P d (x ∷ xs) (suc k) p q = each_at P d xs k p q.1

Each1-at_positions : {A : Type 0} (P : A → Type 0) (d : A) (xs : List A) (ks : List ℕ) → P d → Each1 P xs → Each1 P (at_positions d xs ks)
Each1-at_positions P d xs [] p q = tt
Each1-at_positions P d xs (k ∷ ks) p q = (each_at P d xs k p q, Each1-at_positions P d xs ks p q)

-- numbers of a type that are taken
pub taken_inside : {A : Type 0} (P : ℤ → Type 0) (n : A → ℤ) (d : A) (xs items : List A) (ks : List ℕ) → items ≡ at_positions d xs ks → P (n d) → Each1 P (map n xs) → Each1 P (map n items)
taken_inside {A} P n d xs items ks e p q =
    subst (λ (l : List ℤ). Each1 P l) (sym (ap (map n) e ∙ map-at_positions n d xs ks)) (Each1-at_positions P (n d) (map n xs) ks p q)

-- rows of numbers that are taken bit by bit and number by number
pub taken_entries : {A : Type 0} (n : A → ℤ) (d : A) (rows : List Row) (us valid : List Bool) (xs items : List A) (ks : List ℕ)
    → us ≡ map is_some rows → length xs ≡ length rows → zip2 entry (map is_some rows) (map n xs) ≡ rows
    → items ≡ at_positions d xs ks → valid ≡ at_positions false us ks → zip2 entry valid (map n items) ≡ at_positions None rows ks
taken_entries n d rows us valid xs items ks u same e p v =
    let none : Row = None in
    ap (λ l. zip2 entry l (map n items)) (v ∙ ap (λ l. at_positions false l ks) u)
    ∙ ap (zip2 entry (at_positions false (map is_some rows) ks)) (ap (map n) p ∙ map-at_positions n d xs ks)
    ∙ zip2-at_positions entry false (n d) (map is_some rows) (map n xs) ks (length-map rows is_some ∙ sym same ∙ sym (length-map xs n))
    ∙ ap (λ l. at_positions none l ks) e

restored : (x : Row) → IsRowOf Boolean x → boolean_entry (is_true x) (is_some x) ≡ x
restored (Some (BooleanValue true)) h = refl
restored (Some (BooleanValue false)) h = refl
restored (Some (StringValue s)) h = absurd h
restored (Some (IntegerValue z)) h = absurd h
restored None h = refl

-- rows of Booleans are their two bitmaps
pub boolean_entries : (rows : List Row) → Each1 (IsRowOf Boolean) rows → zip2 boolean_entry (map is_true rows) (map is_some rows) ≡ rows
boolean_entries [] h = refl
boolean_entries (x ∷ xs) h =
    ap (λ r. r ∷ zip2 boolean_entry (map is_true xs) (map is_some xs)) (restored x h.0) ∙ ap (λ l. x ∷ l) (boolean_entries xs h.1)

-- rows of Booleans that are taken bitmap by bitmap
pub taken_booleans : (rows : List Row) (ts us truth valid : List Bool) (ks : List ℕ) → Each1 (IsRowOf Boolean) rows → ts ≡ map is_true rows → us ≡ map is_some rows
    → truth ≡ at_positions false ts ks → valid ≡ at_positions false us ks → zip2 boolean_entry truth valid ≡ at_positions None rows ks
taken_booleans rows ts us truth valid ks h t u p q =
    let none : Row = None in
    ap (λ l. zip2 boolean_entry l valid) (p ∙ ap (λ l. at_positions false l ks) t)
    ∙ ap (zip2 boolean_entry (at_positions false (map is_true rows) ks)) (q ∙ ap (λ l. at_positions false l ks) u)
    ∙ zip2-at_positions boolean_entry false false (map is_true rows) (map is_some rows) ks (length-map rows is_true ∙ sym (length-map rows is_some))
    ∙ ap (λ l. at_positions none l ks) (boolean_entries rows h)

null_at : (n k : ℕ) → get_or (replicate n None) k None ≡ (let none : Row = None in none)
null_at zero k = refl
null_at (suc n) zero = refl
null_at (suc n) (suc k) = null_at n k

nulls_at : (n : ℕ) (ks : List ℕ) → replicate (length ks) (let none : Row = None in none) ≡ at_positions None (replicate n None) ks
nulls_at n [] = refl
nulls_at n (k ∷ ks) =
    let none : Row = None in
    ap (λ l. none ∷ l) (nulls_at n ks) ∙ ap (λ r. r ∷ at_positions none (replicate n none) ks) (sym (null_at n k))

-- nulls that are taken
pub taken_nulls : (m n : ℕ) (rows : List Row) (ks : List ℕ) → m ≡ length ks → rows ≡ replicate n None → replicate m None ≡ at_positions None rows ks
taken_nulls m n rows ks e h =
    let none : Row = None in
    ap (λ k. replicate k none) e ∙ nulls_at n ks ∙ ap (λ l. at_positions none l ks) (sym h)

-- all positions in order
pub all_positions : {A : Type 0} (d : A) (xs : List A) (n : ℕ) → n ≡ length xs → at_positions d xs (range_with_len 0 n) ≡ xs
all_positions d xs n e = sym (fill_by_all (λ k. get_or xs k d) xs n d (sym e) (λ k h. refl))

-- all positions from the last to the first
pub reversed_taken : {A : Type 0} (d : A) (xs : List A) (n : ℕ) → n ≡ length xs → at_positions d xs (map (λ i. n - 1 - i) (range_with_len 0 n)) ≡ reverse xs
reversed_taken d xs n e =
    maps (λ i. n - 1 - i) (λ position. get_or xs position d) (range_with_len 0 n)
    ∙ sym (fill_by_all (λ i. get_or xs (n - 1 - i) d) (reverse xs) n d (length-reverse xs ∙ sym e)
    (λ k h. get_or-reverse xs k d (omega arith) ∙ ap (λ m. get_or xs (m - 1 - k) d) (sym e)))

-- ---- where bits are set

where-append : {A : Type 0} (bs : List Bool) (xs : List A) (b : Bool) (x : A) → length bs ≡ length xs → items_where_true (bs ++ b ∷ []) (xs ++ x ∷ []) ≡ items_where_true bs xs ++ cond b (x ∷ []) []
where-append [] [] true x h = refl
where-append [] [] false x h = refl
where-append [] (y ∷ ys) b x h = cc
where-append (c ∷ cs) [] b x h = cc
where-append (true ∷ cs) (y ∷ ys) b x h = ap (λ l. y ∷ l) (where-append cs ys b x (omega arith))
where-append (false ∷ cs) (y ∷ ys) b x h = where-append cs ys b x (omega arith)

range_more : (n : ℕ) → range_with_len 0 (n + 1) ≡ range_with_len 0 n ++ n ∷ []
range_more n =
    let same : ℕ → ℕ = λ k. k in
    sym (map-id (range_with_len 0 (n + 1))) ∙ map-range_with_len_more same 0 n n (omega arith) ∙ ap (λ l. l ++ n ∷ []) (map-id (range_with_len 0 n))

-- one bit more
pub set_more : (bs : List Bool) (i : ℕ) → i < length bs
    → items_where_true (take (i + 1) bs) (range_with_len 0 (i + 1)) ≡ items_where_true (take i bs) (range_with_len 0 i) ++ cond (get_or bs i false) (i ∷ []) []
set_more bs i h =
    ap (λ l. items_where_true l (range_with_len 0 (i + 1))) (take_more bs i false h)
    ∙ ap (items_where_true (take i bs ++ get_or bs i false ∷ [])) (range_more i)
    ∙ where-append (take i bs) (range_with_len 0 i) (get_or bs i false) i (length-take-le i bs (omega arith) ∙ sym (length-range_with_len 0 i))

where-map : {A B : Type 0} (f : A → B) (bs : List Bool) (xs : List A) → map f (items_where_true bs xs) ≡ items_where_true bs (map f xs)
where-map f [] xs = refl
where-map f (b ∷ bs) [] = refl
where-map f (true ∷ bs) (x ∷ xs) = ap (λ l. f x ∷ l) (where-map f bs xs)
where-map f (false ∷ bs) (x ∷ xs) = where-map f bs xs

-- what is taken at the positions of the bits that are set
pub taken_where : {A : Type 0} (d : A) (bs : List Bool) (xs : List A) → length bs ≡ length xs → at_positions d xs (set_positions bs) ≡ items_where_true bs xs
taken_where d bs xs h = where-map (λ position. get_or xs position d) bs (range_with_len 0 (length bs)) ∙ ap (items_where_true bs) (all_positions d xs (length bs) h)

pub where_short : {A : Type 0} (bs : List Bool) (xs : List A) → length (items_where_true bs xs) ≤ length bs
where_short [] xs = omega arith
where_short (b ∷ bs) [] = omega arith
where_short (true ∷ bs) (x ∷ xs) = let rest = where_short bs xs in omega arith
where_short (false ∷ bs) (x ∷ xs) = let rest = where_short bs xs in omega arith

-- the elements at which a test is true
pub where_test : {A : Type 0} (p : A → Bool) (xs : List A) → items_where_true (map p xs) xs ≡ filter p xs
where_test p [] = refl
where_test p (x ∷ xs) =
    elim (p x) as (λ b. items_where_true (b ∷ map p xs) (x ∷ xs) ≡ cond b (x ∷ filter p xs) (filter p xs)) [
      | true ↦ ap (λ l. x ∷ l) (where_test p xs)
      | false ↦ where_test p xs
    ]

pub where_none : {A : Type 0} (n : ℕ) (xs : List A) → items_where_true (replicate n false) xs ≡ []
where_none zero xs = refl
where_none (suc n) [] = refl
where_none (suc n) (x ∷ xs) = where_none n xs

pub where_all : {A : Type 0} (n : ℕ) (xs : List A) → n ≡ length xs → items_where_true (replicate n true) xs ≡ xs
where_all zero [] h = refl
where_all zero (x ∷ xs) h = cc
where_all (suc n) [] h = cc
where_all (suc n) (x ∷ xs) h = ap (λ l. x ∷ l) (where_all n xs (omega arith))

-- one element at each position, where bits are set: so many times
where_some : {A : Type 0} (bs : List Bool) (x : A) (k : ℕ) → k + length (filter not bs) ≡ length bs → items_where_true bs (replicate (length bs) x) ≡ replicate k x
where_some [] x zero h = refl
where_some [] x (suc k) h = absurd (omega arith)
where_some (true ∷ bs) x zero h = absurd (omega (arith, length-filter not bs, count_by-le-length not bs))
where_some (true ∷ bs) x (suc k) h = ap (λ l. x ∷ l) (where_some bs x k (omega arith))
where_some (false ∷ bs) x k h = where_some bs x k (omega arith)

pub where_same : {A : Type 0} (bs : List Bool) (x : A) (k : ℕ) → k + count_by not bs ≡ length bs → items_where_true bs (replicate (length bs) x) ≡ replicate k x
where_same bs x k h = where_some bs x k (omega (arith, length-filter not bs))

-- no bit of nulls is set
pub no_positions : (n : ℕ) (rows : List Row) → rows ≡ replicate n None → [] ≡ set_positions (map is_some rows)
no_positions n rows e = sym (ap (λ l. set_positions l) (sym (nulls_valid n rows e)) ∙ where_none n (range_with_len 0 (length (replicate n false))))
