-- Lists of rows, read one by one.
use Rattle.std.proofs.Common.{◌≡◌, ℕ, suc, ◌+◌, ◌<◌, ◌≤◌, ◌^◌, List, [], ◌∷◌, ◌++◌, drop, length, get_or, Bool, true, false, cond, nat_lt, Option, Some, None, option_map, is_some, unwrap_or, Result, refl, sym, ap, ◌∙◌, subst, append_assoc, drop-cons, add-one}
use Rattle.std.specs.Simd.Lanes.{zip2}
use Rattle.std.proofs.lemmas.Bool.{le-ltb, lt-ltb}
use Rattle.std.proofs.lemmas.List.{length-append}
use Rattle.serde_json.specs.Data.{Data}
use Rattle.serde_json.specs.View.{view, items_view}
use Rattle.serde_json.specs.declared.value.Value.{Value}
use Rattle.serde_json.proofs.Views.{items_len-items_view}
use Rattle.px_base.specs.declared.error.PlanError.{PlanError}
use Rattle.px_semantics.specs.Rows.{TypedRows, boolean_entry, boolean_row}
use Rattle.px_types.specs.declared.value_type.ValueType.{ValueType}
use Rattle.px_arrays.proofs.Bitmaps.{zip2-append}
use Rattle.px_column.specs.ColumnOf.{type_of, rows_of}
use Rattle.px_column.specs.declared.buffer.Buffer.{Buffer}
use Rattle.px_base.specs.Answer.{GivesSeen}
use Rattle.px_json.specs.JsonAccess.{◌>>=◌, every}
use Rattle.px_json.specs.Column.{cell, boolean_in, rows_in, values_in}

-- what was read so far, before what is left
abbrev pub with_front : {A : Type 0} → List A → Option (List A) → Option (List A)
with_front done left = option_map (λ more. done ++ more) left

values_under : (b : Bool) (k : ValueType) (vs : List Value) → nat_lt (length vs) (2 ^ 32) ≡ b → values_in k (items_view vs) ≡ cond b (rows_in k (items_view vs)) None
values_under b k vs e = ap (λ c. cond c (rows_in k (items_view vs)) None) (ap (λ n. nat_lt n (2 ^ 32)) (items_len-items_view vs) ∙ e)

pub too_many : (k : ValueType) (vs : List Value) → 2 ^ 32 ≤ length vs → None ≡ values_in k (items_view vs)
too_many k vs h = sym (values_under false k vs (le-ltb (length vs) (2 ^ 32) h))

pub number_of_rows : (k : ValueType) (vs : List Value) → length vs < 2 ^ 32 → values_in k (items_view vs) ≡ rows_in k (items_view vs)
number_of_rows k vs h = values_under true k vs (lt-ltb (length vs) (2 ^ 32) h)

-- the same of what a call read
pub read_few : (k : ValueType) (vs : List Value) (r : Result (Option Buffer) PlanError) → length vs < 2 ^ 32
    → GivesSeen (option_map (λ (b : Buffer). record { value_type = type_of b; rows = rows_of b })) r (rows_in k (items_view vs))
    → GivesSeen (option_map (λ (b : Buffer). record { value_type = type_of b; rows = rows_of b })) r (values_in k (items_view vs))
read_few k vs r h e =
    subst (λ (o : Option TypedRows). GivesSeen (option_map (λ (b : Buffer). record { value_type = type_of b; rows = rows_of b })) r o) (sym (number_of_rows k vs h)) e

-- one item more
pub one_longer : {A : Type 0} (xs : List A) (x : A) (ys : List A) (i : ℕ) → ys ≡ xs ++ x ∷ [] → length xs ≡ i → length ys ≡ i + 1
one_longer xs x ys i e h = rw (e, length-append xs (x ∷ []), h) refl

one_more : {A : Type 0} (done : List A) (a : A) (o : Option (List A)) → with_front done (o >>= (λ as'. Some (a ∷ as'))) ≡ with_front (done ++ a ∷ []) o
one_more done a None = refl
one_more done a (Some as') = ap Some (sym (append_assoc done (a ∷ []) as'))

-- one more item is read, and those from the next on are left
pub every_step : {A : Type 0} (f : Data → Option A) (vs : List Value) (i : ℕ) (v : Value) (done : List A) (a : A) → i < length vs → v ≡ get_or vs i v → Some a ≡ f (view v)
    → every f (items_view vs) ≡ with_front done (every f (items_view (drop i vs)))
    → every f (items_view vs) ≡ with_front (done ++ a ∷ []) (every f (items_view (drop (i + 1) vs)))
every_step {A} f vs i v done a h is reads so_far =
    so_far ∙ rw (add-one, drop-cons vs i v h) (next (f (view (get_or vs i v))) (reads ∙ ap (λ (w : Value). f (view w)) is))
  where
    next : (o : Option A) → Some a ≡ o → with_front done (o >>= (λ b. every f (items_view (drop (suc i) vs)) >>= (λ as'. Some (b ∷ as')))) ≡ with_front (done ++ a ∷ []) (every f (items_view (drop (suc i) vs)))
    next o e = subst (λ (p : Option A). with_front done (p >>= (λ b. every f (items_view (drop (suc i) vs)) >>= (λ as'. Some (b ∷ as')))) ≡ with_front (done ++ a ∷ []) (every f (items_view (drop (suc i) vs)))) e (one_more done a (every f (items_view (drop (suc i) vs))))

flag_row : (row : Option Bool) → boolean_entry (unwrap_or row false) (is_some row) ≡ boolean_row row
flag_row (Some t) = refl
flag_row None = refl

-- one more Boolean is read
pub booleans_step : (vs : List Value) (i : ℕ) (v : Value) (flags valid new_flags new_valid : List Bool) (row : Option Bool) (flag there : Bool)
    → i < length vs → v ≡ get_or vs i v → Some (boolean_row row) ≡ cell boolean_in (view v) → flag ≡ unwrap_or row false → there ≡ is_some row
    → new_flags ≡ flags ++ flag ∷ [] → new_valid ≡ valid ++ there ∷ [] → length flags ≡ i → length valid ≡ i
    → every (cell boolean_in) (items_view vs) ≡ with_front (zip2 boolean_entry flags valid) (every (cell boolean_in) (items_view (drop i vs)))
    → every (cell boolean_in) (items_view vs) ≡ with_front (zip2 boolean_entry new_flags new_valid) (every (cell boolean_in) (items_view (drop (i + 1) vs)))
booleans_step vs i v flags valid new_flags new_valid row flag there h is reads flag_is there_is flags_are valid_are long_flags long_valid so_far =
    let entry : boolean_entry flag there ≡ boolean_row row = rw (flag_is, there_is) (flag_row row) in
    let rows : zip2 boolean_entry new_flags new_valid ≡ zip2 boolean_entry flags valid ++ boolean_row row ∷ [] =
    rw (flags_are, valid_are) (zip2-append boolean_entry flags (flag ∷ []) valid (there ∷ []) (long_flags ∙ sym long_valid) ∙ ap (λ r. zip2 boolean_entry flags valid ++ r ∷ []) entry) in
    rw rows (every_step (cell boolean_in) vs i v (zip2 boolean_entry flags valid) (boolean_row row) h is reads so_far)
