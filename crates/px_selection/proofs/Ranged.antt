-- Neighbouring rows.
use Rattle.std.proofs.Common.{◌≡◌, ◌∙◌, ℤ, Bool, false, None, is_some, subst, ◌+◌, ◌-◌, ◌<◌, ◌≤◌, ℕ, zero, suc, List, [], ◌∷◌, ◌++◌, length, map, get_or, take, drop, replicate, refl, sym, ap, arith}
use Rattle.std.specs.Prelude.{Result, slice_range}
use Rattle.px_base.specs.Answer.{GivesOrMemory}
use Rattle.px_base.specs.declared.error.PlanError.{PlanError}
use Rattle.std.specs.Simd.Lanes.{zip2, Each1}
use Rattle.px_semantics.specs.Logic.{is_true}
use Rattle.px_semantics.specs.Rows.{Row, entry, boolean_entry, IsRowOf}
use Rattle.px_types.specs.declared.value_type.ValueType.TheVariants.{Boolean}
use Rattle.px_selection.proofs.Taken.{boolean_entries}
use Rattle.std.proofs.lemmas.List.{length-replicate, length-take, length-drop, take_more, get_or-drop, take-replicate, drop-replicate}

zip2-take : {A B C : Type 0} (f : A → B → C) (n : ℕ) (xs : List A) (ys : List B) → zip2 f (take n xs) (take n ys) ≡ take n (zip2 f xs ys)
zip2-take f zero xs ys = refl
zip2-take f (suc n) [] ys = refl
zip2-take f (suc n) (x ∷ xs) [] = refl
zip2-take f (suc n) (x ∷ xs) (y ∷ ys) = ap (λ l. f x y ∷ l) (zip2-take f n xs ys)

zip2-nil : {A B C : Type 0} (f : A → B → C) (xs : List A) → zip2 f xs [] ≡ []
zip2-nil f [] = refl
zip2-nil f (x ∷ xs) = refl

zip2-drop : {A B C : Type 0} (f : A → B → C) (n : ℕ) (xs : List A) (ys : List B) → zip2 f (drop n xs) (drop n ys) ≡ drop n (zip2 f xs ys)
zip2-drop f zero xs ys = refl
zip2-drop f (suc n) [] ys = refl
zip2-drop f (suc n) (x ∷ xs) [] = zip2-nil f (drop n xs)
zip2-drop f (suc n) (x ∷ xs) (y ∷ ys) = zip2-drop f n xs ys

-- two lists that are put together have their ranges put together
pub zip2-range : {A B C : Type 0} (f : A → B → C) (xs : List A) (ys : List B) (s e : ℕ) → zip2 f (slice_range xs s e) (slice_range ys s e) ≡ slice_range (zip2 f xs ys) s e
zip2-range f xs ys s e = zip2-take f (e - s) (drop s xs) (drop s ys) ∙ ap (take (e - s)) (zip2-drop f s xs ys)

map-take : {A B : Type 0} (f : A → B) (n : ℕ) (xs : List A) → map f (take n xs) ≡ take n (map f xs)
map-take f zero xs = refl
map-take f (suc n) [] = refl
map-take f (suc n) (x ∷ xs) = ap (λ l. f x ∷ l) (map-take f n xs)

map-drop : {A B : Type 0} (f : A → B) (n : ℕ) (xs : List A) → map f (drop n xs) ≡ drop n (map f xs)
map-drop f zero xs = refl
map-drop f (suc n) [] = refl
map-drop f (suc n) (x ∷ xs) = map-drop f n xs

pub map-range : {A B : Type 0} (f : A → B) (xs : List A) (s e : ℕ) → map f (slice_range xs s e) ≡ slice_range (map f xs) s e
map-range f xs s e = map-take f (e - s) (drop s xs) ∙ ap (take (e - s)) (map-drop f s xs)

Each1-take : {A : Type 0} (P : A → Type 0) (n : ℕ) (xs : List A) → Each1 P xs → Each1 P (take n xs)
Each1-take P zero xs h = tt
Each1-take P (suc n) [] h = tt
Each1-take P (suc n) (x ∷ xs) h = (h.0, Each1-take P n xs h.1)

Each1-drop : {A : Type 0} (P : A → Type 0) (n : ℕ) (xs : List A) → Each1 P xs → Each1 P (drop n xs)
Each1-drop P zero xs h = h
Each1-drop P (suc n) [] h = tt
Each1-drop P (suc n) (x ∷ xs) h = Each1-drop P n xs h.1

pub Each1-range : {A : Type 0} (P : A → Type 0) (xs : List A) (s e : ℕ) → Each1 P xs → Each1 P (slice_range xs s e)
Each1-range P xs s e h = Each1-take P (e - s) (drop s xs) (Each1-drop P s xs h)

pub length-range : {A : Type 0} (xs : List A) (s e : ℕ) → s ≤ e → e ≤ length xs → length (slice_range xs s e) ≡ e - s
length-range xs s e h k = omega (arith, length-take (e - s) (drop s xs), length-drop s xs)

pub range_of_same : {A : Type 0} (x : A) (n s e : ℕ) → e ≤ n → replicate (e - s) x ≡ slice_range (replicate n x) s e
range_of_same x n s e h = sym (ap (take (e - s)) (drop-replicate s n x) ∙ take-replicate (e - s) (n - s) x (omega arith))

range_step : {A : Type 0} (xs : List A) (s i : ℕ) (d : A) → s ≤ i → i < length xs → slice_range xs s i ++ get_or xs i d ∷ [] ≡ slice_range xs s (i + 1)
range_step xs s i d h k =
    let here : s + (i - s) ≡ i = omega arith in
    let next : (i + 1) - s ≡ (i - s) + 1 = omega arith in
    ap (λ x. slice_range xs s i ++ x ∷ []) (ap (λ m. get_or xs m d) (sym here) ∙ sym (get_or-drop s xs (i - s) d))
    ∙ sym (take_more (drop s xs) (i - s) d (omega (arith, length-drop s xs)))
    ∙ ap (λ m. take m (drop s xs)) (sym next)

-- no rows, and one more
pub range_start : {A : Type 0} (xs : List A) (s : ℕ) → [] ≡ slice_range xs s s
range_start xs s = let none : 0 ≡ s - s = omega arith in ap (λ n. take n (drop s xs)) none

pub range_more : {A : Type 0} (xs mid new : List A) (x d : A) (s i : ℕ) → s ≤ i → i < length xs → mid ≡ slice_range xs s i → x ≡ get_or xs i d → new ≡ mid ++ x ∷ [] → new ≡ slice_range xs s (i + 1)
range_more xs mid new x d s i h k m e n = n ∙ ap (λ l. l ++ x ∷ []) m ∙ ap (λ y. slice_range xs s i ++ y ∷ []) e ∙ range_step xs s i d h k

-- numbers of a type
pub ranged_inside : {A : Type 0} (P : ℤ → Type 0) (n : A → ℤ) (xs items : List A) (s e : ℕ) → items ≡ slice_range xs s e → Each1 P (map n xs) → Each1 P (map n items)
ranged_inside {A} P n xs items s e p q = subst (λ (l : List ℤ). Each1 P l) (sym (ap (map n) p ∙ map-range n xs s e)) (Each1-range P (map n xs) s e q)

-- rows of numbers, bit by bit and number by number
pub ranged_entries : {A : Type 0} (n : A → ℤ) (rows : List Row) (us valid : List Bool) (xs items : List A) (s e : ℕ)
    → us ≡ map is_some rows → zip2 entry (map is_some rows) (map n xs) ≡ rows
    → items ≡ slice_range xs s e → valid ≡ slice_range us s e → zip2 entry valid (map n items) ≡ slice_range rows s e
ranged_entries n rows us valid xs items s e u same p v =
    ap (λ l. zip2 entry l (map n items)) (v ∙ ap (λ (l : List Bool). slice_range l s e) u)
    ∙ ap (zip2 entry (slice_range (map is_some rows) s e)) (ap (map n) p ∙ map-range n xs s e)
    ∙ zip2-range entry (map is_some rows) (map n xs) s e
    ∙ ap (λ (l : List Row). slice_range l s e) same

-- rows of Booleans, bitmap by bitmap
pub ranged_booleans : (rows : List Row) (ts us truth valid : List Bool) (s e : ℕ) → Each1 (IsRowOf Boolean) rows → ts ≡ map is_true rows → us ≡ map is_some rows
    → truth ≡ slice_range ts s e → valid ≡ slice_range us s e → zip2 boolean_entry truth valid ≡ slice_range rows s e
ranged_booleans rows ts us truth valid s e h t u p q =
    ap (λ l. zip2 boolean_entry l valid) (p ∙ ap (λ (l : List Bool). slice_range l s e) t)
    ∙ ap (zip2 boolean_entry (slice_range (map is_true rows) s e)) (q ∙ ap (λ (l : List Bool). slice_range l s e) u)
    ∙ zip2-range boolean_entry (map is_true rows) (map is_some rows) s e
    ∙ ap (λ (l : List Row). slice_range l s e) (boolean_entries rows h)

-- nulls
pub ranged_nulls : (m n s e : ℕ) (rows : List Row) → m ≡ e - s → e ≤ length rows → rows ≡ replicate n None → replicate m None ≡ slice_range rows s e
ranged_nulls m n s e rows h k r =
    let none : Row = None in
    let long : e ≤ n = omega (arith, ap length r, length-replicate n none) in
    ap (λ j. replicate j none) h ∙ range_of_same none n s e long ∙ ap (λ (l : List Row). slice_range l s e) (sym r)

-- what a call gives, it gives of an equal value
pub gives_same : {A : Type 0} (r : Result A PlanError) (x y : A) → x ≡ y → GivesOrMemory r x → GivesOrMemory r y
gives_same {A} r x y e h = subst (λ (v : A). GivesOrMemory r v) e h
