-- Rows that are made of a validity and a number.
use Rattle.std.proofs.Common.{◌≡◌, ◌++◌, replicate, get_or, zero, suc, arith, ℕ, Bool, true, false, ◌&&◌, List, [], ◌∷◌, length, map, refl, sym, ap, ◌∙◌, ℤ, Option, Some, None, ◌<◌, is_some, unwrap_or, option_map}
use Rattle.std.specs.Simd.Lanes.{zip2}
use Rattle.std.proofs.lemmas.Simd.{length-zip2}
use Rattle.std.proofs.lemmas.List.{length-map}
use Rattle.std.specs.Simd.Lanes.{Each1}
use Rattle.std.proofs.lemmas.List.{map-append}
use Rattle.px_types.specs.declared.value_type.ValueType.{ValueType}
use Rattle.px_types.specs.Integers.{InRange}
use Rattle.px_semantics.specs.Rows.{entry, lift, on_integer, integer_row, IsRowOf}
use Rattle.px_arrays.proofs.Bitmaps.{zip2-append}

lift_entry : (f : ℤ → ℤ → ℤ) (u v : Bool) (x y : ℤ) → entry (u && v) (f x y) ≡ lift f (entry u x) (entry v y)
lift_entry f true true x y = refl
lift_entry f true false x y = refl
lift_entry f false v x y = refl

-- f row by row: the bitmaps and the numbers apart
pub lift_entries : (f : ℤ → ℤ → ℤ) (us vs : List Bool) (xs ys : List ℤ) → zip2 entry (zip2 (λ u v. u && v) us vs) (zip2 f xs ys) ≡ zip2 (lift f) (zip2 entry us xs) (zip2 entry vs ys)
lift_entries f [] vs xs ys = refl
lift_entries f (u ∷ us) [] [] ys = refl
lift_entries f (u ∷ us) [] (x ∷ xs) ys = refl
lift_entries f (u ∷ us) (v ∷ vs) [] ys = refl
lift_entries f (u ∷ us) (v ∷ vs) (x ∷ xs) [] = refl
lift_entries f (u ∷ us) (v ∷ vs) (x ∷ xs) (y ∷ ys) = ap (λ r. r ∷ zip2 entry (zip2 (λ u v. u && v) us vs) (zip2 f xs ys)) (lift_entry f u v x y) ∙ ap (λ rs. lift f (entry u x) (entry v y) ∷ rs) (lift_entries f us vs xs ys)

pub length-entries : {A : Type 0} (n : A → ℤ) (us : List Bool) (xs : List A) → length us ≡ length xs → length (zip2 entry us (map n xs)) ≡ length us
length-entries n us xs h = length-zip2 entry us (map n xs) (h ∙ sym (length-map xs n))

-- an answer that is made bitmap by bitmap has as many bits as numbers
pub lift_lengths : {A : Type 0} (n : A → ℤ) (f : ℤ → ℤ → ℤ) (us vs ws : List Bool) (xs ys zs : List A)
    → length us ≡ length xs → length vs ≡ length ys → length us ≡ length vs
    → ws ≡ zip2 (λ u v. u && v) us vs → map n zs ≡ zip2 f (map n xs) (map n ys) → length ws ≡ length zs
lift_lengths n f us vs ws xs ys zs p q h a b =
    ap length a ∙ length-zip2 (λ u v. u && v) us vs h ∙ p ∙ sym (length-map xs n)
    ∙ sym (length-zip2 f (map n xs) (map n ys) (length-map xs n ∙ sym p ∙ h ∙ q ∙ sym (length-map ys n)))
    ∙ sym (ap length b) ∙ length-map zs n

pub Each1-push : {A : Type 0} (P : A → Type 0) (xs : List A) (x : A) → Each1 P xs → P x → Each1 P (xs ++ x ∷ [])
Each1-push P [] x h p = (p, tt)
Each1-push P (y ∷ ys) x h p = (h.0, Each1-push P ys x h.1 p)

-- what is taken into a type is in its range
pub into_all : (P : ℤ → Type 0) (r : ℤ → ℤ) (f : ℤ → ℤ → ℤ) → ((z : ℤ) → P (r z)) → (xs ys : List ℤ) → Each1 P (zip2 (λ x y. r (f x y)) xs ys)
into_all P r f h [] ys = tt
into_all P r f h (x ∷ xs) [] = tt
into_all P r f h (x ∷ xs) (y ∷ ys) = (h (f x y), into_all P r f h xs ys)

pub map-const : {A B : Type 0} (b : B) (xs : List A) → map (λ _. b) xs ≡ replicate (length xs) b
map-const b [] = refl
map-const b (x ∷ xs) = ap (λ l. b ∷ l) (map-const b xs)

-- the first row, by its bit and its number
pub first_row : {A : Type 0} (n : A → ℤ) (valid : List Bool) (values : List A) (b : Bool) (x : A)
    → length (zip2 entry valid (map n values)) ≡ 1 → b ≡ get_or valid 0 false → x ≡ get_or values 0 x
    → entry b (n x) ≡ get_or (zip2 entry valid (map n values)) 0 None
first_row n [] values b x h e f = absurd (omega arith)
first_row n (v ∷ vs) [] b x h e f = absurd (omega arith)
first_row n (v ∷ vs) (y ∷ ys) b x h e f = ap (λ v. entry v (n x)) e ∙ ap (λ y. entry v (n y)) f

pub first_inside : {A : Type 0} (P : ℤ → Type 0) (n : A → ℤ) (valid : List Bool) (values : List A) (x : A)
    → length (zip2 entry valid (map n values)) ≡ 1 → x ≡ get_or values 0 x → Each1 P (map n values) → P (n x)
first_inside P n [] values x h f p = absurd (omega arith)
first_inside P n (v ∷ vs) [] x h f p = absurd (omega arith)
first_inside P n (v ∷ vs) (y ∷ ys) x h f p = rw f p.0

pub repeated : {A : Type 0} (n : A → ℤ) (k : ℕ) (b : Bool) (x : A) → zip2 entry (replicate k b) (map n (replicate k x)) ≡ replicate k (entry b (n x))
repeated n zero b x = refl
repeated n (suc k) b x = ap (λ l. entry b (n x) ∷ l) (repeated n k b x)

pub repeated_inside : {A : Type 0} (P : ℤ → Type 0) (n : A → ℤ) (k : ℕ) (x : A) → P (n x) → Each1 P (map n (replicate k x))
repeated_inside P n zero x p = tt
repeated_inside P n (suc k) x p = (p, repeated_inside P n k x p)

-- each row is null or a number of the type
pub entries_typed : (value_type : ValueType) (us : List Bool) (xs : List ℤ) → Each1 (InRange value_type) xs → Each1 (IsRowOf value_type) (zip2 entry us xs)
entries_typed value_type [] xs h = tt
entries_typed value_type (u ∷ us) [] h = tt
entries_typed value_type (true ∷ us) (x ∷ xs) h = (h.0, entries_typed value_type us xs h.1)
entries_typed value_type (false ∷ us) (x ∷ xs) h = (tt, entries_typed value_type us xs h.1)

-- row i, by its bit and its number
pub entry_at : {A : Type 0} (n : A → ℤ) (us : List Bool) (xs : List A) (i : ℕ) (u : Bool) (x : A)
    → length us ≡ length xs → i < length us → u ≡ get_or us i false → x ≡ get_or xs i x → entry u (n x) ≡ get_or (zip2 entry us (map n xs)) i None
entry_at n [] xs i u x h l e f = absurd (omega arith)
entry_at n (v ∷ us) [] i u x h l e f = absurd (omega arith)
entry_at n (v ∷ us) (y ∷ ys) zero u x h l e f = ap (λ v. entry v (n x)) e ∙ ap (λ y. entry v (n y)) f
entry_at n (v ∷ us) (y ∷ ys) (suc i) u x h l e f = entry_at n us ys i u x (omega arith) (omega arith) e f

-- a row whose bit is not set is null
pub null_at : {A : Type 0} (n : A → ℤ) (us : List Bool) (xs : List A) (i : ℕ) → length us ≡ length xs → i < length us → get_or us i false ≡ false
    → None ≡ get_or (zip2 entry us (map n xs)) i None
null_at n [] xs i h l e = absurd (omega arith)
null_at n (v ∷ us) [] i h l e = absurd (omega arith)
null_at n (v ∷ us) (y ∷ ys) zero h l e = ap (λ v. entry v (n y)) (sym e)
null_at n (v ∷ us) (y ∷ ys) (suc i) h l e = null_at n us ys i (omega arith) (omega arith) e

-- the entry of an optional number
pub entry_of_option : {A : Type 0} (n : A → ℤ) (row : Option A) (other : A) → entry (is_some row) (n (unwrap_or row other)) ≡ integer_row (option_map n row)
entry_of_option n (Some x) other = refl
entry_of_option n None other = refl

-- one row more
pub entries_push : {A : Type 0} (n : A → ℤ) (us : List Bool) (xs : List A) (u : Bool) (x : A) → length us ≡ length xs
    → zip2 entry (us ++ u ∷ []) (map n (xs ++ x ∷ [])) ≡ zip2 entry us (map n xs) ++ entry u (n x) ∷ []
entries_push n us xs u x h =
    ap (zip2 entry (us ++ u ∷ [])) (map-append n xs (x ∷ []))
    ∙ zip2-append entry us (u ∷ []) (map n xs) (n x ∷ []) (h ∙ sym (length-map xs n))

-- the validity of entries
pub entries_valid : {A : Type 0} (n : A → ℤ) (us : List Bool) (xs : List A) → length us ≡ length xs → map is_some (zip2 entry us (map n xs)) ≡ us
entries_valid n [] xs h = refl
entries_valid n (u ∷ us) [] h = cc
entries_valid n (true ∷ us) (x ∷ xs) h = ap (λ l. true ∷ l) (entries_valid n us xs (omega arith))
entries_valid n (false ∷ us) (x ∷ xs) h = ap (λ l. false ∷ l) (entries_valid n us xs (omega arith))

scalar_left_entry : (f : ℤ → ℤ → ℤ) (u v : Bool) (x y : ℤ) → entry (v && u) (f x y) ≡ lift f (entry u x) (entry v y)
scalar_left_entry f true true x y = refl
scalar_left_entry f false true x y = refl
scalar_left_entry f true false x y = refl
scalar_left_entry f false false x y = refl

-- f of one row and each row: the bitmaps and the numbers apart
pub scalar_left_entries : (f : ℤ → ℤ → ℤ) (u : Bool) (x : ℤ) (vs : List Bool) (ys : List ℤ) → zip2 entry (map (λ v. v && u) vs) (map (f x) ys) ≡ map (lift f (entry u x)) (zip2 entry vs ys)
scalar_left_entries f u x [] ys = refl
scalar_left_entries f u x (v ∷ vs) [] = refl
scalar_left_entries f u x (v ∷ vs) (y ∷ ys) = let here = scalar_left_entry f u v x y in let rest = scalar_left_entries f u x vs ys in cc

-- f of each row and one row
pub scalar_right_entries : (f : ℤ → ℤ → ℤ) (v : Bool) (y : ℤ) (us : List Bool) (xs : List ℤ) → zip2 entry (map (λ u. u && v) us) (map (λ x. f x y) xs) ≡ map (λ row. lift f row (entry v y)) (zip2 entry us xs)
scalar_right_entries f v y [] xs = refl
scalar_right_entries f v y (u ∷ us) [] = refl
scalar_right_entries f v y (u ∷ us) (x ∷ xs) = let here = lift_entry f u v x y in let rest = scalar_right_entries f v y us xs in cc

on_entry : (f : ℤ → ℤ) (u : Bool) (x : ℤ) → entry u (f x) ≡ on_integer f (entry u x)
on_entry f true x = refl
on_entry f false x = refl

-- f of each row
pub on_entries : (f : ℤ → ℤ) (us : List Bool) (xs : List ℤ) → zip2 entry us (map f xs) ≡ map (on_integer f) (zip2 entry us xs)
on_entries f [] xs = refl
on_entries f (u ∷ us) [] = refl
on_entries f (u ∷ us) (x ∷ xs) = let here = on_entry f u x in let rest = on_entries f us xs in cc

-- an operation that keeps a range keeps it place by place
pub range_elementwise : (P : ℤ → Type 0) (f : ℤ → ℤ → ℤ) → ((x y : ℤ) → P x → P y → P (f x y)) → (xs ys : List ℤ) → Each1 P xs → Each1 P ys → Each1 P (zip2 f xs ys)
range_elementwise P f h [] ys p q = tt
range_elementwise P f h (x ∷ xs) [] p q = tt
range_elementwise P f h (x ∷ xs) (y ∷ ys) p q = (h x y p.0 q.0, range_elementwise P f h xs ys p.1 q.1)

pub range_each : (P : ℤ → Type 0) (f : ℤ → ℤ) → ((x : ℤ) → P x → P (f x)) → (xs : List ℤ) → Each1 P xs → Each1 P (map f xs)
range_each P f h [] p = tt
range_each P f h (x ∷ xs) p = (h x p.0, range_each P f h xs p.1)

-- an answer that is made of one list has as many bits as numbers
pub each_lengths : {A : Type 0} (n : A → ℤ) (f : ℤ → ℤ) (g : Bool → Bool) (vs ws : List Bool) (ys zs : List A)
    → length vs ≡ length (map n ys) → ws ≡ map g vs → map n zs ≡ map f (map n ys) → length ws ≡ length (map n zs)
each_lengths n f g vs ws ys zs h a b = ap length a ∙ length-map vs g ∙ h ∙ sym (length-map (map n ys) f) ∙ sym (ap length b)
