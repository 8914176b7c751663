-- Two columns as one.
use Rattle.std.proofs.Common.{◌≡◌, ◌∙◌, ◌+◌, ◌<◌, ◌≤◌, ◌^◌, ℕ, ℤ, Bool, true, false, nat_lt, cond, List, [], ◌∷◌, ◌++◌, Option, Some, None, is_some, length, map, replicate, sym, ap, subst, arith}
use Rattle.std.specs.Simd.Lanes.{zip2, Each1}
use Rattle.std.proofs.lemmas.Bool.Decides.{nat_tests}
use Rattle.std.proofs.lemmas.List.{length-map, length-replicate, map-append, replicate-append-replicate}
use Rattle.px_arrays.proofs.Bitmaps.{zip2-append}
use Rattle.px_semantics.specs.Logic.{is_true}
use Rattle.px_semantics.specs.Rows.{Row, TypedRows, entry, boolean_entry, IsRowOf}
use Rattle.px_semantics.proofs.Joining.{of_type}
use Rattle.px_types.specs.declared.value_type.ValueType.TheVariants.{Boolean}
use Rattle.px_semantics.specs.Slices.{append_rows}
use Rattle.px_selection.proofs.Taken.{boolean_entries}

below_test : (m n : ℕ) → m < n → nat_lt m n ≡ true
below_test m n h = grind (arith, nat_tests)

past_test : (m n : ℕ) → n ≤ m → nat_lt m n ≡ false
past_test m n h = grind (arith, nat_tests)

pub append_gives : (a b : TypedRows) → length a.rows + length b.rows < 2 ^ 32 → Some (of_type a.value_type (a.rows ++ b.rows)) ≡ append_rows a b
unfolding append_rows
append_gives a b h =
    let none : Option TypedRows = None in
    ap (λ (t : Bool). cond t (Some (of_type a.value_type (a.rows ++ b.rows))) none) (sym (below_test (length a.rows + length b.rows) (2 ^ 32) h))

pub append_none : (a b : TypedRows) → 2 ^ 32 ≤ length a.rows + length b.rows → append_rows a b ≡ None
unfolding append_rows
append_none a b h =
    let none : Option TypedRows = None in
    ap (λ (t : Bool). cond t (Some (of_type a.value_type (a.rows ++ b.rows))) none) (past_test (length a.rows + length b.rows) (2 ^ 32) h)

pub Each1-append : {A : Type 0} (P : A → Type 0) (xs ys : List A) → Each1 P xs → Each1 P ys → Each1 P (xs ++ ys)
Each1-append P [] ys p q = q
Each1-append P (x ∷ xs) ys p q = (p.0, Each1-append P xs ys p.1 q)

pub appended_inside : {A : Type 0} (P : ℤ → Type 0) (n : A → ℤ) (xs ys items : List A) → items ≡ xs ++ ys → Each1 P (map n xs) → Each1 P (map n ys) → Each1 P (map n items)
appended_inside {A} P n xs ys items e p q = subst (λ (l : List ℤ). Each1 P l) (sym (ap (map n) e ∙ map-append n xs ys)) (Each1-append P (map n xs) (map n ys) p q)

pub appended_entries : {A : Type 0} (n : A → ℤ) (rows others : List Row) (us vs valid : List Bool) (xs ys items : List A)
    → us ≡ map is_some rows → vs ≡ map is_some others → length xs ≡ length rows
    → zip2 entry (map is_some rows) (map n xs) ≡ rows → zip2 entry (map is_some others) (map n ys) ≡ others
    → items ≡ xs ++ ys → valid ≡ us ++ vs → zip2 entry valid (map n items) ≡ rows ++ others
appended_entries n rows others us vs valid xs ys items u v same e f p q =
    ap (λ l. zip2 entry l (map n items)) (q ∙ ap (λ l. l ++ vs) u ∙ ap (λ l. map is_some rows ++ l) v)
    ∙ ap (zip2 entry (map is_some rows ++ map is_some others)) (ap (map n) p ∙ map-append n xs ys)
    ∙ zip2-append entry (map is_some rows) (map is_some others) (map n xs) (map n ys) (length-map rows is_some ∙ sym same ∙ sym (length-map xs n))
    ∙ ap (λ l. l ++ zip2 entry (map is_some others) (map n ys)) e ∙ ap (λ l. rows ++ l) f

pub appended_bitmaps : (rows others : List Row) (ts fs truth us vs valid : List Bool) → Each1 (IsRowOf Boolean) rows → Each1 (IsRowOf Boolean) others
    → ts ≡ map is_true rows → fs ≡ map is_true others → us ≡ map is_some rows → vs ≡ map is_some others
    → truth ≡ ts ++ fs → valid ≡ us ++ vs → zip2 boolean_entry truth valid ≡ rows ++ others
appended_bitmaps rows others ts fs truth us vs valid h k t f u v p q =
    ap (λ l. zip2 boolean_entry l valid) (p ∙ ap (λ l. l ++ fs) t ∙ ap (λ l. map is_true rows ++ l) f)
    ∙ ap (zip2 boolean_entry (map is_true rows ++ map is_true others)) (q ∙ ap (λ l. l ++ vs) u ∙ ap (λ l. map is_some rows ++ l) v)
    ∙ zip2-append boolean_entry (map is_true rows) (map is_true others) (map is_some rows) (map is_some others) (length-map rows is_true ∙ sym (length-map rows is_some))
    ∙ ap (λ l. l ++ zip2 boolean_entry (map is_true others) (map is_some others)) (boolean_entries rows h) ∙ ap (λ l. rows ++ l) (boolean_entries others k)

pub appended_nulls : (m n len : ℕ) (xs ys : List Row) → len ≡ length xs + length ys → xs ≡ replicate m None → ys ≡ replicate n None → replicate len None ≡ xs ++ ys
appended_nulls m n len xs ys e p q =
    let none : Row = None in
    let first : length xs ≡ m = ap length p ∙ length-replicate m none in
    let second : length ys ≡ n = ap length q ∙ length-replicate n none in
    let sum : len ≡ m + n = omega arith in
    ap (λ k. replicate k none) sum ∙ sym (replicate-append-replicate m n none) ∙ ap (λ l. l ++ replicate n none) (sym p) ∙ ap (λ l. xs ++ l) (sym q)
