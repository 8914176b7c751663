-- One of two rows, place by place.
use Rattle.std.proofs.Common.{◌≡◌, ◌∙◌, ◌⊎◌, ◌<◌, ◌≤◌, ◌+◌, ◌==◌, ◌++◌, ◌&&◌, ◌||◌, ◌^◌, ℕ, Bool, true, false, not, cond, List, [], ◌∷◌, map, length, get_or, take, zero, suc, replicate, Some, None, is_some, sym, ap, refl, subst, arith}
use Rattle.std.specs.Prelude.{Result}
use Rattle.std.specs.Simd.Lanes.{zip2, Each1}
use Rattle.std.proofs.lemmas.List.{length-map, length-take-le, take_more, take_all, get_or-replicate}
use Rattle.std.proofs.lemmas.Simd.{length-zip2}
use Rattle.px_base.specs.Answer.{GivesOrMemory}
use Rattle.px_base.specs.declared.error.PlanError.{PlanError}
use Rattle.px_types.specs.declared.value_type.ValueType.TheVariants.{Boolean}
use Rattle.px_semantics.specs.Logic.{is_true}
use Rattle.px_semantics.specs.Rows.{Row, BooleanValue, StringValue, IntegerValue, IsRowOf, boolean_entry, stretch}
use Rattle.px_semantics.proofs.Joining.{stretch_long}
use Rattle.px_horizontals.specs.Choices.{chosen, flag_of}
use Rattle.px_horizontals.specs.Places.{place_in}
use Rattle.px_horizontals.specs.declared.choices.Choice.{Choice}
use Rattle.px_horizontals.specs.declared.choices.Choice.TheVariants as choice
use Rattle.px_horizontals.proofs.FoldRows.{at_zip2}

-- ---- the loops over rows

-- a row of a list that is broadcast
at_stretch : (rows : List Row) (n i : ℕ) → i < n → get_or (stretch n rows) i None ≡ get_or rows (place_in (length rows) i) None
at_stretch rows n i l = by (length rows == 1)
  where
    by : (b : Bool) → get_or (cond b (replicate n (get_or rows 0 None)) rows) i None ≡ get_or rows (cond b 0 i) None
    by true = get_or-replicate n i (get_or rows 0 None) None l
    by false = refl

-- as many rows as the first has
pub joined_long : (f : Row → Row → Row) (xs ys : List Row) → (length ys ≡ 1) ⊎ (length ys ≡ length xs) → length (zip2 f xs (stretch (length xs) ys)) ≡ length xs
joined_long f xs ys h = length-zip2 f xs (stretch (length xs) ys) (sym (stretch_long ys (length xs) h))

-- one row more
pub joined_more : (f : Row → Row → Row) (xs ys : List Row) (rows next : List Row) (x y row : Row) (i : ℕ) → i < length xs → (length ys ≡ 1) ⊎ (length ys ≡ length xs)
    → rows ≡ take i (zip2 f xs (stretch (length xs) ys)) → x ≡ get_or xs i None → y ≡ get_or ys (place_in (length ys) i) None → row ≡ f x y → next ≡ rows ++ row ∷ []
    → next ≡ take (i + 1) (zip2 f xs (stretch (length xs) ys))
joined_more f xs ys rows next x y row i l h inv p q r e =
    let n = length xs in
    let all = zip2 f xs (stretch n ys) in
    let long = joined_long f xs ys h in
    let here : row ≡ get_or all i None =
    r ∙ ap (λ u. f u y) p ∙ ap (f (get_or xs i None)) (q ∙ sym (at_stretch ys n i l))
    ∙ sym (at_zip2 f xs (stretch n ys) i (sym (stretch_long ys n h)) l) in
    e ∙ ap (λ rs. rs ++ row ∷ []) inv ∙ ap (λ u. take i all ++ u ∷ []) here ∙ sym (take_more all i None (omega (arith, long)))

-- the rows so far are few
pub joined_short : (f : Row → Row → Row) (xs ys rows : List Row) (i : ℕ) → i ≤ length xs → length xs < 2 ^ 32 → (length ys ≡ 1) ⊎ (length ys ≡ length xs) → rows ≡ take i (zip2 f xs (stretch (length xs) ys))
    → length rows < 2 ^ 32
joined_short f xs ys rows i l few h inv =
    let long = joined_long f xs ys h in
    omega (arith, ap length inv, length-take-le i (zip2 f xs (stretch (length xs) ys)) (omega (arith, long)))

-- all rows
pub joined_all : (f : Row → Row → Row) (xs ys rows : List Row) (i : ℕ) (r : Result (List Row) PlanError) → length xs ≤ i → (length ys ≡ 1) ⊎ (length ys ≡ length xs)
    → rows ≡ take i (zip2 f xs (stretch (length xs) ys)) → GivesOrMemory r rows → GivesOrMemory r (zip2 f xs (stretch (length xs) ys))
joined_all f xs ys rows i r l h inv given =
    let long = joined_long f xs ys h in
    subst (λ (rs : List Row). GivesOrMemory r rs) (inv ∙ take_all i (zip2 f xs (stretch (length xs) ys)) (omega (arith, long))) given

-- ---- Booleans by words of bits

zip2_maps : {A B C X Y : Type 0} (g : X → Y → C) (p : A → X) (q : B → Y) (xs : List A) (ys : List B) → zip2 g (map p xs) (map q ys) ≡ zip2 (λ x y. g (p x) (q y)) xs ys
zip2_maps g p q [] ys = refl
zip2_maps g p q (x ∷ xs) [] = refl
zip2_maps g p q (x ∷ xs) (y ∷ ys) = ap (λ l. g (p x) (q y) ∷ l) (zip2_maps g p q xs ys)

first_rows : (xs ys : List Row) → zip2 (λ x y. x || y) (map is_true xs) (zip2 (λ x y. x && y) (map not (map is_some xs)) (map is_true ys)) ≡ zip2 (flag_of choice.First) xs ys
first_rows [] ys = refl
first_rows (x ∷ xs) [] = refl
first_rows (x ∷ xs) (y ∷ ys) = ap (λ l. flag_of choice.First x y ∷ l) (first_rows xs ys)

pub second_long : (xs ys : List Row) (valid missing truth second : List Bool) → length xs ≡ length ys → valid ≡ map is_some xs → missing ≡ map not valid → truth ≡ map is_true ys
    → second ≡ zip2 (λ x y. x && y) missing truth → length second ≡ length xs
second_long xs ys valid missing truth second h v m t s =
    let a : length missing ≡ length xs = ap length m ∙ length-map valid not ∙ ap length v ∙ length-map xs is_some in
    let b : length truth ≡ length ys = ap length t ∙ length-map ys is_true in
    ap length s ∙ length-zip2 (λ x y. x && y) missing truth (a ∙ h ∙ sym b) ∙ a

pub first_flags_are : (xs ys : List Row) (valid missing truth second own : List Bool) → valid ≡ map is_some xs → missing ≡ map not valid → truth ≡ map is_true ys
    → second ≡ zip2 (λ x y. x && y) missing truth → own ≡ map is_true xs → zip2 (λ x y. x || y) own second ≡ zip2 (flag_of choice.First) xs ys
first_flags_are xs ys valid missing truth second own v m t s o =
    ap (λ l. zip2 (λ x y. x || y) l second) o
    ∙ ap (zip2 (λ x y. x || y) (map is_true xs)) (s ∙ ap (λ l. zip2 (λ x y. x && y) l truth) (m ∙ ap (map not) v) ∙ ap (zip2 (λ x y. x && y) (map not (map is_some xs))) t)
    ∙ first_rows xs ys

-- whether a row is true or null
abbrev pub true_or_null : Row → Bool
true_or_null x = is_true x || not (is_some x)

or_null_rows : (xs : List Row) → zip2 (λ x y. x || y) (map is_true xs) (map not (map is_some xs)) ≡ map true_or_null xs
or_null_rows [] = refl
or_null_rows (x ∷ xs) = ap (λ l. true_or_null x ∷ l) (or_null_rows xs)

pub or_null_are : (xs : List Row) (valid missing truth : List Bool) → valid ≡ map is_some xs → missing ≡ map not valid → truth ≡ map is_true xs → zip2 (λ x y. x || y) truth missing ≡ map true_or_null xs
or_null_are xs valid missing truth v m t =
    ap (λ l. zip2 (λ x y. x || y) l missing) t ∙ ap (zip2 (λ x y. x || y) (map is_true xs)) (m ∙ ap (map not) v) ∙ or_null_rows xs

pub least_flags_are : (xs ys : List Row) (p q : List Bool) → p ≡ map true_or_null xs → q ≡ map true_or_null ys → zip2 (λ x y. x && y) p q ≡ zip2 (flag_of choice.Least) xs ys
least_flags_are xs ys p q d e =
    ap (λ l. zip2 (λ x y. x && y) l q) d ∙ ap (zip2 (λ x y. x && y) (map true_or_null xs)) e ∙ zip2_maps (λ x y. x && y) true_or_null true_or_null xs ys

pub greatest_flags_are : (xs ys : List Row) (p q : List Bool) → p ≡ map is_true xs → q ≡ map is_true ys → zip2 (λ x y. x || y) p q ≡ zip2 (flag_of choice.Greatest) xs ys
greatest_flags_are xs ys p q d e =
    ap (λ l. zip2 (λ x y. x || y) l q) d ∙ ap (zip2 (λ x y. x || y) (map is_true xs)) e ∙ zip2_maps (λ x y. x || y) is_true is_true xs ys

-- the entry of two Booleans is the one that is taken
entry_chosen : (c : Choice) (x y : Row) → IsRowOf Boolean x → IsRowOf Boolean y → boolean_entry (flag_of c x y) (is_some x || is_some y) ≡ chosen c x y
entry_chosen c (Some (StringValue s)) y p q = absurd p
entry_chosen c (Some (IntegerValue z)) y p q = absurd p
entry_chosen c x (Some (StringValue s)) p q = absurd q
entry_chosen c x (Some (IntegerValue z)) p q = absurd q
entry_chosen choice.First None None p q = refl
entry_chosen choice.First None (Some (BooleanValue true)) p q = refl
entry_chosen choice.First None (Some (BooleanValue false)) p q = refl
entry_chosen choice.First (Some (BooleanValue true)) None p q = refl
entry_chosen choice.First (Some (BooleanValue false)) None p q = refl
entry_chosen choice.First (Some (BooleanValue true)) (Some (BooleanValue true)) p q = refl
entry_chosen choice.First (Some (BooleanValue true)) (Some (BooleanValue false)) p q = refl
entry_chosen choice.First (Some (BooleanValue false)) (Some (BooleanValue true)) p q = refl
entry_chosen choice.First (Some (BooleanValue false)) (Some (BooleanValue false)) p q = refl
entry_chosen choice.Least None None p q = refl
entry_chosen choice.Least None (Some (BooleanValue true)) p q = refl
entry_chosen choice.Least None (Some (BooleanValue false)) p q = refl
entry_chosen choice.Least (Some (BooleanValue true)) None p q = refl
entry_chosen choice.Least (Some (BooleanValue false)) None p q = refl
entry_chosen choice.Least (Some (BooleanValue true)) (Some (BooleanValue true)) p q = refl
entry_chosen choice.Least (Some (BooleanValue true)) (Some (BooleanValue false)) p q = refl
entry_chosen choice.Least (Some (BooleanValue false)) (Some (BooleanValue true)) p q = refl
entry_chosen choice.Least (Some (BooleanValue false)) (Some (BooleanValue false)) p q = refl
entry_chosen choice.Greatest None None p q = refl
entry_chosen choice.Greatest None (Some (BooleanValue true)) p q = refl
entry_chosen choice.Greatest None (Some (BooleanValue false)) p q = refl
entry_chosen choice.Greatest (Some (BooleanValue true)) None p q = refl
entry_chosen choice.Greatest (Some (BooleanValue false)) None p q = refl
entry_chosen choice.Greatest (Some (BooleanValue true)) (Some (BooleanValue true)) p q = refl
entry_chosen choice.Greatest (Some (BooleanValue true)) (Some (BooleanValue false)) p q = refl
entry_chosen choice.Greatest (Some (BooleanValue false)) (Some (BooleanValue true)) p q = refl
entry_chosen choice.Greatest (Some (BooleanValue false)) (Some (BooleanValue false)) p q = refl

entries_chosen : (c : Choice) (xs ys : List Row) → Each1 (IsRowOf Boolean) xs → Each1 (IsRowOf Boolean) ys
    → zip2 boolean_entry (zip2 (flag_of c) xs ys) (zip2 (λ x y. x || y) (map is_some xs) (map is_some ys)) ≡ zip2 (chosen c) xs ys
entries_chosen c [] ys p q = refl
entries_chosen c (x ∷ xs) [] p q = refl
entries_chosen c (x ∷ xs) (y ∷ ys) p q =
    ap (λ r. r ∷ zip2 boolean_entry (zip2 (flag_of c) xs ys) (zip2 (λ x y. x || y) (map is_some xs) (map is_some ys))) (entry_chosen c x y p.0 q.0)
    ∙ ap (λ l. chosen c x y ∷ l) (entries_chosen c xs ys p.1 q.1)

-- as many bits of the one as of the other
pub flags_long : (c : Choice) (xs ys : List Row) (flags v w valid : List Bool) → length xs ≡ length ys → flags ≡ zip2 (flag_of c) xs ys → v ≡ map is_some xs → w ≡ map is_some ys
    → valid ≡ zip2 (λ x y. x || y) v w → length flags ≡ length valid
flags_long c xs ys flags v w valid h f d e u =
    let a : length v ≡ length xs = ap length d ∙ length-map xs is_some in
    let b : length w ≡ length ys = ap length e ∙ length-map ys is_some in
    ap length f ∙ length-zip2 (flag_of c) xs ys h ∙ sym (ap length u ∙ length-zip2 (λ x y. x || y) v w (a ∙ h ∙ sym b) ∙ a)

pub chosen_entries : (c : Choice) (xs ys : List Row) (flags v w valid : List Bool) → Each1 (IsRowOf Boolean) xs → Each1 (IsRowOf Boolean) ys → flags ≡ zip2 (flag_of c) xs ys → v ≡ map is_some xs → w ≡ map is_some ys
    → valid ≡ zip2 (λ x y. x || y) v w → zip2 boolean_entry flags valid ≡ zip2 (chosen c) xs ys
chosen_entries c xs ys flags v w valid p q f d e u =
    ap (λ l. zip2 boolean_entry l valid) f
    ∙ ap (zip2 boolean_entry (zip2 (flag_of c) xs ys)) (u ∙ ap (λ l. zip2 (λ x y. x || y) l w) d ∙ ap (zip2 (λ x y. x || y) (map is_some xs)) e)
    ∙ entries_chosen c xs ys p q

-- nulls with nulls are nulls
nulls_joined : (c : Choice) (n : ℕ) (ys : List Row) → length ys ≡ n → Each1 (λ row. row ≡ None) ys → replicate n None ≡ zip2 (chosen c) (replicate n None) ys
nulls_joined c zero [] h e = refl
nulls_joined c zero (y ∷ ys) h e = cc
nulls_joined c (suc n) [] h e = cc
nulls_joined c (suc n) (y ∷ ys) h e =
    let none : Row = None in
    ap (λ r. r ∷ replicate n none) (sym e.0) ∙ ap (λ l. y ∷ l) (nulls_joined c n ys (omega arith) e.1)

all_null : (n : ℕ) → Each1 (λ (row : Row). row ≡ None) (replicate n None)
all_null zero = tt
all_null (suc n) = (refl, all_null n)

stretch_null : (n m : ℕ) → Each1 (λ (row : Row). row ≡ None) (stretch n (replicate m None))
stretch_null n m = by (length (let none : Row = None in replicate m none) == 1)
  where
    first : (m : ℕ) → get_or (replicate m None) 0 None ≡ (let none : Row = None in none)
    first zero = refl
    first (suc m) = refl

    by : (b : Bool) → Each1 (λ (row : Row). row ≡ None) (cond b (replicate n (get_or (replicate m None) 0 None)) (replicate m None))
    by true = subst (λ (row : Row). Each1 (λ (r : Row). r ≡ None) (replicate n row)) (sym (first m)) (all_null n)
    by false = all_null m

pub nulls_chosen : (c : Choice) (n m : ℕ) (xs ys : List Row) → xs ≡ replicate n None → ys ≡ replicate m None → length xs ≡ n → (length ys ≡ 1) ⊎ (length ys ≡ length xs) → xs ≡ zip2 (chosen c) xs (stretch (length xs) ys)
nulls_chosen c n m xs ys p q l h =
    let long : length (stretch n ys) ≡ n = ap (λ k. length (stretch k ys)) (sym l) ∙ stretch_long ys (length xs) h ∙ l in
    let null : Each1 (λ (row : Row). row ≡ None) (stretch n ys) = subst (λ (rows : List Row). Each1 (λ (r : Row). r ≡ None) (stretch n rows)) (sym q) (stretch_null n m) in
    p ∙ nulls_joined c n (stretch n ys) long null ∙ ap (λ rows. zip2 (chosen c) rows (stretch n ys)) (sym p) ∙ ap (λ k. zip2 (chosen c) xs (stretch k ys)) (sym l)
