-- Tests and comparisons row by row.
use Rattle.std.proofs.Common.{◌≡◌, ◌∙◌, ◌&&◌, ◌||◌, ℕ, ℤ, Bool, true, false, not, cond, List, [], ◌∷◌, map, length, sym, ap, refl, Some, None, is_some, replicate, zero, suc}
use Rattle.std.specs.Simd.Lanes.{zip2, Each1}
use Rattle.std.proofs.lemmas.Simd.{length-zip2}
use Rattle.std.proofs.lemmas.List.{length-map, length-replicate}
use Rattle.px_semantics.specs.Comparisons.{equal, less, both_pass, test_row, match_rows}
use Rattle.px_semantics.specs.Logic.{is_true, not_row}
use Rattle.px_semantics.specs.Rows.{Row, Datum, BooleanValue, StringValue, IntegerValue, entry, boolean_entry, IsRowOf}
use Rattle.px_types.specs.declared.value_type.ValueType.TheVariants.{Boolean}
use Rattle.px_arrays.specs.BitmapOf.{non_null}
use Rattle.px_semantics.proofs.Joining.{zip2_flip}
use Rattle.px_kernels.specs.Matches.{match_row, mismatch_row}

test_entry : (f : Datum → Datum → Bool) (u v : Bool) (x y : ℤ) → boolean_entry (f (IntegerValue x) (IntegerValue y)) (u && v) ≡ test_row f (entry u x) (entry v y)
test_entry f true true x y = refl
test_entry f true false x y = refl
test_entry f false true x y = refl
test_entry f false false x y = refl

-- a test row by row: the bitmaps and the numbers apart
pub test_entries : (f : Datum → Datum → Bool) (us vs : List Bool) (xs ys : List ℤ)
    → zip2 boolean_entry (zip2 (λ x y. f (IntegerValue x) (IntegerValue y)) xs ys) (zip2 (λ u v. u && v) us vs) ≡ zip2 (test_row f) (zip2 entry us xs) (zip2 entry vs ys)
test_entries f [] vs [] ys = refl
test_entries f (u ∷ us) vs [] ys = refl
test_entries f [] vs (x ∷ xs) [] = refl
test_entries f [] vs (x ∷ xs) (y ∷ ys) = refl
test_entries f (u ∷ us) [] (x ∷ xs) [] = refl
test_entries f (u ∷ us) [] (x ∷ xs) (y ∷ ys) = refl
test_entries f (u ∷ us) (v ∷ vs) (x ∷ xs) [] = refl
test_entries f (u ∷ us) (v ∷ vs) (x ∷ xs) (y ∷ ys) = let here = test_entry f u v x y in let rest = test_entries f us vs xs ys in cc

-- a test of rows, by what passes and by what is there
pub pass_entries : (f : Datum → Datum → Bool) (xs ys : List Row)
    → zip2 boolean_entry (zip2 (both_pass f) xs ys) (zip2 (λ u v. u && v) (map is_some xs) (map is_some ys)) ≡ zip2 (test_row f) xs ys
pass_entries f [] ys = refl
pass_entries f (x ∷ xs) [] = refl
pass_entries f (x ∷ xs) (y ∷ ys) = ap (λ l. test_row f x y ∷ l) (pass_entries f xs ys)

boolean_test : (g : Bool → Bool → Bool) (f : Datum → Datum → Bool) → ((p q : Bool) → g p q ≡ f (BooleanValue p) (BooleanValue q)) → (x y : Row) → IsRowOf Boolean x → IsRowOf Boolean y
    → boolean_entry (g (is_true x) (is_true y)) (is_some x && is_some y) ≡ test_row f x y
boolean_test g f h (Some (BooleanValue true)) (Some (BooleanValue true)) p q = ap (λ t. Some (BooleanValue t)) (h true true)
boolean_test g f h (Some (BooleanValue true)) (Some (BooleanValue false)) p q = ap (λ t. Some (BooleanValue t)) (h true false)
boolean_test g f h (Some (BooleanValue false)) (Some (BooleanValue true)) p q = ap (λ t. Some (BooleanValue t)) (h false true)
boolean_test g f h (Some (BooleanValue false)) (Some (BooleanValue false)) p q = ap (λ t. Some (BooleanValue t)) (h false false)
boolean_test g f h (Some (BooleanValue t)) None p q = refl
boolean_test g f h None y p q = refl
boolean_test g f h (Some (StringValue s)) y p q = absurd p
boolean_test g f h (Some (IntegerValue z)) y p q = absurd p
boolean_test g f h (Some (BooleanValue t)) (Some (StringValue s)) p q = absurd q
boolean_test g f h (Some (BooleanValue t)) (Some (IntegerValue z)) p q = absurd q

-- a test of Booleans on their bitmaps
pub boolean_tests : (g : Bool → Bool → Bool) (f : Datum → Datum → Bool) → ((p q : Bool) → g p q ≡ f (BooleanValue p) (BooleanValue q)) → (xs ys : List Row) → Each1 (IsRowOf Boolean) xs → Each1 (IsRowOf Boolean) ys
    → zip2 boolean_entry (zip2 g (map is_true xs) (map is_true ys)) (zip2 (λ u v. u && v) (map is_some xs) (map is_some ys)) ≡ zip2 (test_row f) xs ys
boolean_tests g f h [] ys p q = refl
boolean_tests g f h (x ∷ xs) [] p q = refl
boolean_tests g f h (x ∷ xs) (y ∷ ys) p q = let here = boolean_test g f h x y p.0 q.0 in let rest = boolean_tests g f h xs ys p.1 q.1 in cc

-- not true, and true
abbrev pub below : Bool → Bool → Bool
below p q = (cond p (not q) q) && q

pub below_is : (p q : Bool) → below p q ≡ less (BooleanValue p) (BooleanValue q)
below_is true true = refl
below_is true false = refl
below_is false true = refl
below_is false false = refl

-- both true, or both not
abbrev pub alike : Bool → Bool → Bool
alike p q = not (cond p (not q) q)

pub alike_is : (p q : Bool) → alike p q ≡ equal (BooleanValue p) (BooleanValue q)
alike_is true true = refl
alike_is true false = refl
alike_is false true = refl
alike_is false false = refl

pub zip2_right : {A B C : Type 0} (h : C → B → C) (g : A → B → C) (us : List A) (vs : List B) → zip2 h (zip2 g us vs) vs ≡ zip2 (λ u v. h (g u v) v) us vs
zip2_right h g [] vs = refl
zip2_right h g (u ∷ us) [] = refl
zip2_right h g (u ∷ us) (v ∷ vs) = ap (λ l. h (g u v) v ∷ l) (zip2_right h g us vs)

pub map_zip2 : {A B C D : Type 0} (h : C → D) (g : A → B → C) (us : List A) (vs : List B) → map h (zip2 g us vs) ≡ zip2 (λ u v. h (g u v)) us vs
map_zip2 h g [] vs = refl
map_zip2 h g (u ∷ us) [] = refl
map_zip2 h g (u ∷ us) (v ∷ vs) = ap (λ l. h (g u v) ∷ l) (map_zip2 h g us vs)

pub zip2_same : {A B C : Type 0} (f g : A → B → C) → ((x : A) (y : B) → f x y ≡ g x y) → (xs : List A) (ys : List B) → zip2 f xs ys ≡ zip2 g xs ys
zip2_same f g h [] ys = refl
zip2_same f g h (x ∷ xs) [] = refl
zip2_same f g h (x ∷ xs) (y ∷ ys) = let here = h x y in let rest = zip2_same f g h xs ys in cc

not_truth : (t : Bool) → not_row (Some (BooleanValue t)) ≡ Some (BooleanValue (not t))
not_truth true = refl
not_truth false = refl

not_test : (f : Datum → Datum → Bool) (x y : Row) → not_row (test_row f x y) ≡ test_row (λ a b. not (f a b)) x y
not_test f (Some x) (Some y) = not_truth (f x y)
not_test f (Some x) None = refl
not_test f None (Some y) = refl
not_test f None None = refl

-- the negation of a test
pub not_tests : (f : Datum → Datum → Bool) (xs ys : List Row) → map not_row (zip2 (test_row f) xs ys) ≡ zip2 (test_row (λ a b. not (f a b))) xs ys
not_tests f xs ys = map_zip2 not_row (test_row f) xs ys ∙ zip2_same (λ x y. not_row (test_row f x y)) (test_row (λ a b. not (f a b))) (not_test f) xs ys

flip_test : (f : Datum → Datum → Bool) (x y : Row) → test_row f y x ≡ test_row (λ a b. f b a) x y
flip_test f (Some x) (Some y) = refl
flip_test f (Some x) None = refl
flip_test f None (Some y) = refl
flip_test f None None = refl

-- a test the other way round
pub flip_tests : (f : Datum → Datum → Bool) (xs ys : List Row) → zip2 (test_row f) ys xs ≡ zip2 (test_row (λ a b. f b a)) xs ys
flip_tests f xs ys = zip2_flip (test_row f) ys xs ∙ zip2_same (λ x y. test_row f y x) (test_row (λ a b. f b a)) (flip_test f) xs ys

boolean_or_not : (t : Bool) → is_true (Some (BooleanValue t)) || false ≡ t
boolean_or_not true = refl
boolean_or_not false = refl

match_flag : (x y : Row) → is_true (test_row equal x y) || not (is_some x || is_some y) ≡ match_rows x y
match_flag (Some x) (Some y) = boolean_or_not (equal x y)
match_flag (Some x) None = refl
match_flag None (Some y) = refl
match_flag None None = refl

-- both null, or both equal values
pub match_flags : (xs ys : List Row)
    → map non_null (zip2 (λ a b. a || b) (map is_true (zip2 (test_row equal) xs ys)) (map not (zip2 (λ a b. a || b) (map is_some xs) (map is_some ys)))) ≡ zip2 match_row xs ys
match_flags [] ys = refl
match_flags (x ∷ xs) [] = refl
match_flags (x ∷ xs) (y ∷ ys) = let here = match_flag x y in let rest = match_flags xs ys in cc

pub match_lengths : (xs ys : List Row) → length xs ≡ length ys
    → length (map is_true (zip2 (test_row equal) xs ys)) ≡ length (map not (zip2 (λ a b. a || b) (map is_some xs) (map is_some ys)))
match_lengths xs ys h =
    length-map (zip2 (test_row equal) xs ys) is_true ∙ length-zip2 (test_row equal) xs ys h
    ∙ sym (length-map (zip2 (λ a b. a || b) (map is_some xs) (map is_some ys)) not ∙ length-zip2 (λ a b. a || b) (map is_some xs) (map is_some ys) (length-map xs is_some ∙ h ∙ sym (length-map ys is_some)) ∙ length-map xs is_some)

-- the negation of a match
pub not_matches : (xs ys : List Row) → map not_row (zip2 match_row xs ys) ≡ zip2 mismatch_row xs ys
not_matches xs ys = map_zip2 not_row match_row xs ys ∙ zip2_same (λ x y. not_row (match_row x y)) mismatch_row (λ x y. not_truth (match_rows x y)) xs ys

-- nulls are compared to nulls
pub null_entries : (n : ℕ) → zip2 boolean_entry (replicate n false) (replicate n false) ≡ replicate n None
null_entries zero = refl
null_entries (suc n) = ap (λ l. None ∷ l) (null_entries n)

pub null_tests : (f : Datum → Datum → Bool) (n : ℕ) → replicate n None ≡ zip2 (test_row f) (replicate n None) (replicate n None)
null_tests f zero = refl
null_tests f (suc n) = ap (λ l. None ∷ l) (null_tests f n)

pub null_rows_tests : (f : Datum → Datum → Bool) (m n : ℕ) (xs ys : List Row) → xs ≡ replicate m None → ys ≡ replicate n None → length xs ≡ length ys → replicate m None ≡ zip2 (test_row f) xs ys
null_rows_tests f m n xs ys p q h =
    let none : Row = None in
    let same : m ≡ n = sym (length-replicate m none) ∙ sym (ap length p) ∙ h ∙ ap length q ∙ length-replicate n none in
    null_tests f m ∙ ap (λ l. zip2 (test_row f) l (replicate m None)) (sym p) ∙ ap (λ l. zip2 (test_row f) xs l) (ap (λ k. replicate k None) same ∙ sym q)
