-- Rows of casts, by their bitmaps and their numbers.
use Rattle.std.proofs.Common.{◌≡◌, ◌∙◌, ◌⊎◌, inl, inr, ◌&&◌, ◌||◌, ◌<◌, ◌≤◌, ◌+◌, ℕ, ℤ, pos, Bool, true, false, not, cond, List, [], ◌∷◌, map, length, sym, ap, refl, Some, None, is_some, is_none, option_map, option_and_then, get_or, replicate, drop, zero, suc, arith}
use Rattle.std.specs.Prelude.{IsTrue, Result, Ok, Err, IfOk}
use Rattle.std.specs.Bool.{MatchBool}
use Rattle.std.specs.List.{AllWithin, range_with_len}
use Rattle.std.proofs.lemmas.List.FromFn.{fill_by_all}
use Rattle.px_arrays.proofs.Bitmaps.{maps}
use Rattle.std.specs.Simd.Lanes.{zip2, Each1}
use Rattle.std.proofs.lemmas.Bool.Decides.{same_from_decides}
use Rattle.std.proofs.lemmas.List.{length-map, length-replicate}
use Rattle.std.proofs.lemmas.List.Sums.{sum_by-cons}
use Rattle.std.proofs.lemmas.Simd.{length-zip2}
use Rattle.px_base.specs.Answer.{GivesOr}
use Rattle.px_base.specs.declared.error.PlanError.{PlanError}
use Rattle.px_base.specs.declared.error.PlanError.TheVariants.{OutOfMemory, InvalidCast}
use Rattle.px_semantics.proofs.CastLemmas.{holds_decides, none_lost, cast_gives, same_gives}
use Rattle.px_semantics.specs.Arithmetic.{is_zero}
use Rattle.px_semantics.specs.Casts.{as_integer, as_boolean, cast_value, cast_row, is_lost, any_lost, cast_list, cast_rows, cast_to}
use Rattle.px_types.specs.Integers.{into, InRange}
use Rattle.px_semantics.specs.Logic.{is_true}
use Rattle.px_semantics.specs.Rows.{Datum, BooleanValue, StringValue, IntegerValue, Row, TypedRows, entry, boolean_entry, null_count, IsRowOf}
use Rattle.px_types.specs.ValueTypes.{holds, value_type_of}
use Rattle.px_types.specs.declared.dtype.DataType.{DataType}
use Rattle.px_types.specs.declared.type_parts.CastOptions.{CastOptions}
use Rattle.px_types.specs.declared.type_parts.CastOptions.TheVariants.{Strict, NonStrict, Overflowing}
use Rattle.px_types.specs.declared.value_type.ValueType.{ValueType}
use Rattle.px_types.specs.declared.value_type.ValueType.TheVariants as value_type
use Rattle.px_column.specs.ColumnOf.{type_of, rows_of}
use Rattle.px_column.specs.declared.buffer.Buffer.{Buffer}
use Rattle.px_column.specs.declared.buffer.Buffer.TheVariants as buffer
use Rattle.px_column.specs.Buffers.{values_of}
use Rattle.px_kernels.specs.Casting.{number_in_range, bits_in_range, any_bit_lost, CastsAll}
use Rattle.px_semantics.proofs.Joining.{of_type}

pub in_range_test : (k : ValueType) (z w : ℤ) (o : Bool) → w ≡ z → (IsTrue o → InRange k w) → (InRange k w → IsTrue o) → o ≡ holds k z
in_range_test k z w o e to from = same_from_decides o (holds k w) (to, from) (holds_decides k w) ∙ ap (holds k) e

pub in_range_some : (k : ValueType) (z w y : ℤ) → w ≡ z → y ≡ w → InRange k w → y ≡ number_in_range k z
in_range_some k z w y e p h = p ∙ sym (ap (λ b. cond b w (pos 0)) ((holds_decides k w).1 h)) ∙ ap (number_in_range k) e

pub in_range_none : (k : ValueType) (z w y : ℤ) → w ≡ z → y ≡ pos 0 → (InRange k w → ⊥) → y ≡ number_in_range k z
in_range_none k z w y e p h = p ∙ by (holds k w) refl ∙ ap (number_in_range k) e
  where
    by : (b : Bool) → holds k w ≡ b → pos 0 ≡ cond b w (pos 0)
    by true f = absurd (h ((holds_decides k w).0 f))
    by false f = refl

-- a test that is passed everywhere
pub all_true : {A : Type 0} (p : A → Bool) (xs : List A) → AllWithin (λ x. p x ≡ true) xs 0 (length xs) → map p xs ≡ replicate (length xs) true
all_true p [] h = refl
all_true p (x ∷ xs) h = let here : p x ≡ true = h 0 x (omega arith) (omega arith) in let rest = all_true p xs (λ k d a b. h (suc k) d (omega arith) (omega arith)) in cc

-- an answer that is true only where a test is passed everywhere
pub when_all : {A : Type 0} (No : Type 0) (p : A → Bool) (xs : List A) (r : Bool) (l : List Bool) → MatchBool r (AllWithin (λ x. p x ≡ true) xs 0 (length xs)) No → l ≡ map p xs
    → IsTrue r → l ≡ replicate (length xs) true
when_all No p xs true l h e t = e ∙ all_true p xs h
when_all No p xs false l h e t = cc

and_true : (v : Bool) → v && true ≡ v
and_true true = refl
and_true false = refl

-- where the type holds all numbers, the valid places stay
pub all_held : (k : ValueType) (us : List Bool) (zs : List ℤ) → map (holds k) zs ≡ replicate (length zs) true → length zs ≡ length us → us ≡ bits_in_range k us zs
all_held k [] zs h l = refl
all_held k (u ∷ us) [] h l = cc
all_held k (u ∷ us) (z ∷ zs) h l =
    let here : holds k z ≡ true = cc in
    let more : map (holds k) zs ≡ replicate (length zs) true = cc in
    let rest = all_held k us zs more (omega arith) in
    let first : u && holds k z ≡ u = ap (λ b. u && b) here ∙ and_true u in
    cc

pub in_range_long : (k : ValueType) (us : List Bool) (zs : List ℤ) → length us ≡ length zs → length (bits_in_range k us zs) ≡ length zs
in_range_long k us zs h = length-zip2 (λ v h. v && h) us (map (holds k) zs) (h ∙ sym (length-map zs (holds k))) ∙ h

in_range_in : (k : ValueType) (z : ℤ) (h : Bool) → holds k z ≡ h → InRange k (pos 0) → InRange k (cond h z (pos 0))
in_range_in k z true e p = (holds_decides k z).0 e
in_range_in k z false e p = p

-- numbers that the type holds, and 0, are the type's
pub in_range_inside : (k : ValueType) (zs : List ℤ) → InRange k (pos 0) → Each1 (InRange k) (map (number_in_range k) zs)
in_range_inside k [] p = tt
in_range_inside k (z ∷ zs) p = (in_range_in k z (holds k z) refl p, in_range_inside k zs p)

pub each_inside : (P : ℤ → Type 0) (r : ℤ → ℤ) → ((z : ℤ) → P (r z)) → (zs : List ℤ) → Each1 P (map r zs)
each_inside P r h [] = tt
each_inside P r h (z ∷ zs) = (h z, each_inside P r h zs)

pub each_bit_inside : (P : ℤ → Type 0) (r : Bool → ℤ) → ((b : Bool) → P (r b)) → (bs : List Bool) → Each1 P (map r bs)
each_bit_inside P r h [] = tt
each_bit_inside P r h (b ∷ bs) = (h b, each_bit_inside P r h bs)

in_range_entry : (h : Bool) (z : ℤ) → entry (true && h) (cond h z (pos 0)) ≡ cond h (Some (IntegerValue z)) None
in_range_entry true z = refl
in_range_entry false z = refl

known_row : (k : ValueType) (v : Bool) (z : ℤ) → entry (v && holds k z) (number_in_range k z) ≡ cast_row (as_integer NonStrict k) (entry v z)
known_row k true z = in_range_entry (holds k z) z
known_row k false z = refl

-- the numbers that the type holds
pub known_entries : (k : ValueType) (us : List Bool) (zs : List ℤ) → zip2 entry (bits_in_range k us zs) (map (number_in_range k) zs) ≡ map (cast_row (as_integer NonStrict k)) (zip2 entry us zs)
known_entries k [] zs = refl
known_entries k (u ∷ us) [] = refl
known_entries k (u ∷ us) (z ∷ zs) = let here = known_row k u z in let rest = known_entries k us zs in cc

residue_row : (k : ValueType) (v : Bool) (z : ℤ) → entry v (into k z) ≡ cast_row (as_integer Overflowing k) (entry v z)
residue_row k true z = refl
residue_row k false z = refl

pub residue_entries : (k : ValueType) (us : List Bool) (zs : List ℤ) → zip2 entry us (map (into k) zs) ≡ map (cast_row (as_integer Overflowing k)) (zip2 entry us zs)
residue_entries k [] zs = refl
residue_entries k (u ∷ us) [] = refl
residue_entries k (u ∷ us) (z ∷ zs) = let here = residue_row k u z in let rest = residue_entries k us zs in cc

kept_bit : (x y : Bool) → x ≡ y → x && not y ≡ false
kept_bit true true e = refl
kept_bit true false e = cc
kept_bit false y e = refl

-- no bit is lost where all bits agree
pub same_bits : (xs ys : List Bool) → ((i : ℕ) → get_or xs i false ≡ get_or ys i false) → false ≡ any_bit_lost xs ys
same_bits [] ys h = refl
same_bits (x ∷ xs) [] h = refl
same_bits (x ∷ xs) (y ∷ ys) h =
    let here = kept_bit x y (h 0) in
    sym (ap (λ b. b || any_bit_lost xs ys) here ∙ sym (same_bits xs ys (λ i. h (suc i))))

-- a bit that is set in the first alone
pub bit_lost_at : (xs ys : List Bool) (i : ℕ) → length xs ≡ length ys → get_or xs i false ≡ true → get_or ys i false ≡ false → true ≡ any_bit_lost xs ys
bit_lost_at [] ys i l p q = cc
bit_lost_at (x ∷ xs) [] i l p q = cc
bit_lost_at (x ∷ xs) (y ∷ ys) zero l p q = sym (ap (λ b. (b && not y) || any_bit_lost xs ys) p ∙ ap (λ b. not b || any_bit_lost xs ys) q)
bit_lost_at (x ∷ xs) (y ∷ ys) (suc i) l p q = or_right (x && not y) (any_bit_lost xs ys) (bit_lost_at xs ys i (omega arith) p q)
  where
    or_right : (a b : Bool) → true ≡ b → true ≡ a || b
    or_right true b e = refl
    or_right false b e = e

pub kept_first : (x y : Bool) → x ≡ false → x && not y ≡ false
kept_first x y e = ap (λ b. b && not y) e

pub kept_second : (x y : Bool) → y ≡ true → x && not y ≡ false
kept_second true y e = ap not e
kept_second false y e = refl

-- a place where no bit is lost
pub next_bit : (xs ys : List Bool) (i : ℕ) → length xs ≡ length ys → i < length xs → get_or xs i false && not (get_or ys i false) ≡ false
    → any_bit_lost (drop (suc i) xs) (drop (suc i) ys) ≡ any_bit_lost (drop i xs) (drop i ys)
next_bit [] ys i l h e = absurd (omega arith)
next_bit (x ∷ xs) [] i l h e = cc
next_bit (x ∷ xs) (y ∷ ys) zero l h e = sym (ap (λ b. b || any_bit_lost xs ys) e)
next_bit (x ∷ xs) (y ∷ ys) (suc i) l h e = next_bit xs ys i (omega arith) (omega arith) e

pub no_bits : (xs ys : List Bool) (n : ℕ) → length xs ≤ n → any_bit_lost (drop n xs) (drop n ys) ≡ false
no_bits [] ys zero h = refl
no_bits [] [] (suc n) h = refl
no_bits [] (y ∷ ys) (suc n) h = refl
no_bits (x ∷ xs) ys zero h = absurd (omega arith)
no_bits (x ∷ xs) [] (suc n) h = by (drop n xs)
  where
    by : (l : List Bool) → any_bit_lost l [] ≡ false
    by [] = refl
    by (b ∷ bs) = refl
no_bits (x ∷ xs) (y ∷ ys) (suc n) h = no_bits xs ys n (omega arith)

not_some : (row : Row) → not (is_some row) ≡ is_none row
not_some (Some x) = refl
not_some None = refl

lost_bit : (f : Datum → Row) (row : Row) → is_some row && not (is_some (cast_row f row)) ≡ is_lost f row
lost_bit f (Some value) = not_some (f value)
lost_bit f None = refl

-- the values that are lost, by their bits
pub lost_bits : (f : Datum → Row) (rows : List Row) → any_bit_lost (map is_some rows) (map is_some (map (cast_row f) rows)) ≡ any_lost f rows
lost_bits f [] = refl
lost_bits f (row ∷ rows) =
    ap (λ b. b || any_bit_lost (map is_some rows) (map is_some (map (cast_row f) rows))) (lost_bit f row)
    ∙ ap (λ b. is_lost f row || b) (lost_bits f rows)

same_cast : (f g : Datum → Row) → ((value : Datum) → f value ≡ g value) → (row : Row) → cast_row f row ≡ cast_row g row
same_cast f g h (Some value) = h value
same_cast f g h None = refl

same_casts : (f g : Datum → Row) → ((value : Datum) → f value ≡ g value) → (rows : List Row) → map (cast_row f) rows ≡ map (cast_row g) rows
same_casts f g h [] = refl
same_casts f g h (row ∷ rows) = let here = same_cast f g h row in let rest = same_casts f g h rows in cc

strict_integer : (k : ValueType) (value : Datum) → as_integer NonStrict k value ≡ as_integer Strict k value
strict_integer k (BooleanValue t) = refl
strict_integer k (StringValue s) = refl
strict_integer k (IntegerValue z) = refl

-- a strict cast gives the same rows, where it loses none
pub strict_rows : (k : ValueType) (rows : List Row) → map (cast_row (as_integer NonStrict k)) rows ≡ map (cast_row (as_integer Strict k)) rows
strict_rows k rows = same_casts (as_integer NonStrict k) (as_integer Strict k) (strict_integer k) rows

pub strict_gives : (k : ValueType) (rows others : List Row) (lost : Bool) → others ≡ map (cast_row (as_integer NonStrict k)) rows → lost ≡ any_bit_lost (map is_some rows) (map is_some others)
    → cast_list Strict (as_integer Strict k) rows ≡ cond lost None (Some others)
strict_gives k rows others lost e p =
    let is = e ∙ strict_rows k rows in
    let same : lost ≡ any_lost (as_integer Strict k) rows = p ∙ ap (λ l. any_bit_lost (map is_some rows) (map is_some l)) is ∙ lost_bits (as_integer Strict k) rows in
    ap (λ b. cond b None (Some (map (cast_row (as_integer Strict k)) rows))) (sym same) ∙ ap (λ l. cond lost None (Some l)) (sym is)

-- a function of each bit, place by place
pub bits_by_place : {A : Type 0} (f : Bool → A) (bits : List Bool) (n : ℕ) → n ≡ length bits → map (λ i. f (get_or bits i false)) (range_with_len 0 n) ≡ map f bits
bits_by_place f bits n e =
    sym (maps (λ i. get_or bits i false) f (range_with_len 0 n)) ∙ ap (map f) (sym (fill_by_all (λ i. get_or bits i false) bits n false (sym e) (λ k h. refl)))

boolean_as_integer : (options : CastOptions) (k : ValueType) (row : Row) → IsRowOf value_type.Boolean row → entry (is_some row) (cond (is_true row) (pos 1) (pos 0)) ≡ cast_row (as_integer options k) row
boolean_as_integer options k (Some (BooleanValue true)) h = refl
boolean_as_integer options k (Some (BooleanValue false)) h = refl
boolean_as_integer options k (Some (StringValue s)) h = absurd h
boolean_as_integer options k (Some (IntegerValue z)) h = absurd h
boolean_as_integer options k None h = refl

boolean_kept : (options : CastOptions) (k : ValueType) (row : Row) → IsRowOf value_type.Boolean row → is_lost (as_integer options k) row ≡ false
boolean_kept options k (Some (BooleanValue t)) h = refl
boolean_kept options k (Some (StringValue s)) h = absurd h
boolean_kept options k (Some (IntegerValue z)) h = absurd h
boolean_kept options k None h = refl

-- Booleans as 0 and 1
pub booleans_cast : (options : CastOptions) (k : ValueType) (rows : List Row) → Each1 (IsRowOf value_type.Boolean) rows
    → CastsAll (as_integer options k) rows (zip2 entry (map is_some rows) (map (λ b. cond b (pos 1) (pos 0)) (map is_true rows)))
booleans_cast options k [] h = (refl, refl)
booleans_cast options k (row ∷ rows) h =
    let here = boolean_as_integer options k row h.0 in
    let rest = booleans_cast options k rows h.1 in
    let more = rest.0 in
    (cc, none_lost (as_integer options k) row rows (boolean_kept options k row h.0) rest.1)

nonzero_row : (v : Bool) (z : ℤ) → boolean_entry (not (is_zero z)) v ≡ cast_row as_boolean (entry v z)
nonzero_row true z = refl
nonzero_row false z = refl

nonzero_kept : (v : Bool) (z : ℤ) → is_lost as_boolean (entry v z) ≡ false
nonzero_kept true z = refl
nonzero_kept false z = refl

-- numbers as Booleans
pub integers_cast : (us : List Bool) (zs : List ℤ) → CastsAll as_boolean (zip2 entry us zs) (zip2 boolean_entry (map (λ z. not (is_zero z)) zs) us)
integers_cast [] [] = (refl, refl)
integers_cast [] (z ∷ zs) = (refl, refl)
integers_cast (u ∷ us) [] = (refl, refl)
integers_cast (u ∷ us) (z ∷ zs) =
    let here = nonzero_row u z in
    let rest = integers_cast us zs in
    let more = rest.0 in
    (cc, none_lost as_boolean (entry u z) (zip2 entry us zs) (nonzero_kept u z) rest.1)

-- the same of equal rows
pub casts_at : (f : Datum → Row) (rows xs others ys : List Row) → rows ≡ xs → ys ≡ others → CastsAll f rows others → CastsAll f xs ys
casts_at f rows xs others ys p q h = (q ∙ h.0 ∙ ap (map (cast_row f)) p, sym (ap (any_lost f) p) ∙ h.1)

-- nulls stay nulls
pub nulls_cast : (f : Datum → Row) (n : ℕ) → CastsAll f (replicate n None) (replicate n None)
nulls_cast f zero = (refl, refl)
nulls_cast f (suc n) = let rest = nulls_cast f n in (ap (λ l. None ∷ l) rest.0, rest.1)

pub nulls_at : (f : Datum → Row) (n : ℕ) (rows : List Row) → rows ≡ replicate n None → CastsAll f rows (replicate n None)
nulls_at f n rows e = casts_at f (replicate n None) rows (replicate n None) (replicate n None) (sym e) refl (nulls_cast f n)

-- rows of the target type
pub same_type : (options : CastOptions) (k to : ValueType) (rows : List Row) → k ≡ to → Each1 (IsRowOf k) rows → Some rows ≡ cast_list options (cast_value options to) rows
same_type options k to rows e h = same_gives options k rows h ∙ ap (λ j. cast_list options (cast_value options j) rows) e

-- rows of which none is lost, in any cast
pub all_cast : (options : CastOptions) (f : Datum → Row) (rows others : List Row) → CastsAll f rows others → Some others ≡ cast_list options f rows
all_cast options f rows others h = ap Some h.0 ∙ cast_gives options f rows h.1

void_row : (row : Row) → cast_row (λ _. None) row ≡ None
void_row (Some value) = refl
void_row None = refl

void_rows : (rows : List Row) → map (cast_row (λ _. None)) rows ≡ replicate (length rows) None
void_rows [] = refl
void_rows (row ∷ rows) = let here = void_row row in let rest = void_rows rows in cc

count_value : (value : Datum) (rows : List Row) → null_count (Some value ∷ rows) ≡ 0 + null_count rows
count_value value rows = sum_by-cons (λ (r : Row). cond (is_none r) 1 0) (Some value) rows

count_null : (rows : List Row) → null_count (None ∷ rows) ≡ 1 + null_count rows
count_null rows = sum_by-cons (λ (r : Row). cond (is_none r) 1 0) None rows

count_most : (rows : List Row) → null_count rows ≤ length rows
count_most [] = omega arith
count_most (Some value ∷ rows) = let e = count_value value rows in let h = count_most rows in omega arith
count_most (None ∷ rows) = let e = count_null rows in let h = count_most rows in omega arith

value_lost : (rows : List Row) → null_count rows < length rows → any_lost (λ _. None) rows ≡ true
value_lost [] h = absurd (omega arith)
value_lost (Some value ∷ rows) h = refl
value_lost (None ∷ rows) h = let e = count_null rows in value_lost rows (omega arith)

no_value_lost : (rows : List Row) → length rows ≤ null_count rows → any_lost (λ _. None) rows ≡ false
no_value_lost [] h = refl
no_value_lost (Some value ∷ rows) h = let e = count_value value rows in let m = count_most rows in absurd (omega arith)
no_value_lost (None ∷ rows) h = let e = count_null rows in no_value_lost rows (omega arith)

-- a strict cast to null loses a value
pub void_lost : (options : CastOptions) (rows : List Row) → options ≡ Strict → null_count rows < length rows → cast_list options (λ _. None) rows ≡ None
void_lost Strict rows e h = ap (λ b. cond b None (Some (map (cast_row (λ _. None)) rows))) (value_lost rows h)
void_lost NonStrict rows e h = cc
void_lost Overflowing rows e h = cc

-- a cast to null that is not strict, or of nulls alone
pub void_gives : (options : CastOptions) (rows : List Row) (n : ℕ) → n ≡ length rows → (options ≡ Strict → n ≤ null_count rows) → Some (replicate n None) ≡ cast_list options (λ _. None) rows
void_gives Strict rows n l h =
    ap (λ m. Some (replicate m None)) l ∙ ap Some (sym (void_rows rows)) ∙ cast_gives Strict (λ _. None) rows (no_value_lost rows (let p = h refl in omega arith))
void_gives NonStrict rows n l h = ap (λ m. Some (replicate m None)) l ∙ ap Some (sym (void_rows rows))
void_gives Overflowing rows n l h = ap (λ m. Some (replicate m None)) l ∙ ap Some (sym (void_rows rows))

-- a refusal for a cause that brings another
pub refused : {P Q : Type 0} (e : PlanError) → (P → Q) → (e ≡ OutOfMemory) ⊎ ((e ≡ InvalidCast) × P) → (e ≡ OutOfMemory) ⊎ ((e ≡ InvalidCast) × Q)
refused e f (inl h) = inl h
refused e f (inr h) = inr (h.0, f h.1)

pub column_gives : (options : CastOptions) (to : DataType) (a : TypedRows) (k : ValueType) (rows : List Row) → value_type_of to ≡ Some k
    → Some rows ≡ cast_list options (cast_value options k) a.rows → Some (of_type k rows) ≡ cast_to options to a
unfolding cast_rows
column_gives options to a k rows e h = ap (option_map (of_type k)) h ∙ sym (ap (option_and_then (λ k. cast_rows options k a)) e)

pub column_none : (options : CastOptions) (to : DataType) (a : TypedRows) (k : ValueType) → value_type_of to ≡ Some k
    → cast_list options (cast_value options k) a.rows ≡ None → cast_to options to a ≡ None
unfolding cast_rows
column_none options to a k e h = ap (option_and_then (λ k. cast_rows options k a)) e ∙ ap (option_map (of_type k)) h

pub cast_answer : (options : CastOptions) (to : DataType) (a : TypedRows) (k : ValueType) (r : Result Buffer PlanError) → value_type_of to ≡ Some k
    → IfOk r (λ c. type_of c ≡ k) → GivesOr InvalidCast rows_of r (cast_list options (cast_value options k) a.rows) → GivesOr InvalidCast values_of r (cast_to options to a)
cast_answer options to a k (Ok c) v h e = ap (λ j. Some (of_type j (rows_of c))) h ∙ column_gives options to a k (rows_of c) v e
cast_answer options to a k (Err x) v h e = refused x (column_none options to a k v) e

-- a buffer of the type Null has nulls alone
null_rows : (b : Buffer) → type_of b ≡ value_type.Null → rows_of b ≡ replicate (length (rows_of b)) None
null_rows (buffer.Null len) h = let none : Row = None in ap (λ n. replicate n None) (sym (length-replicate len none))
null_rows (buffer.Boolean rows) h = cc
null_rows (buffer.String rows) h = cc
null_rows (buffer.Int8 rows) h = cc
null_rows (buffer.Int16 rows) h = cc
null_rows (buffer.Int32 rows) h = cc
null_rows (buffer.Int64 rows) h = cc
null_rows (buffer.UInt8 rows) h = cc
null_rows (buffer.UInt16 rows) h = cc
null_rows (buffer.UInt32 rows) h = cc
null_rows (buffer.UInt64 rows) h = cc

-- nulls as strings
pub null_strings_gives : (options : CastOptions) (b : Buffer) → type_of b ≡ value_type.Null → (rows : List Row) (n : ℕ) → rows ≡ replicate n None → n ≡ length (rows_of b)
    → Some rows ≡ cast_list options (cast_value options value_type.String) (rows_of b)
null_strings_gives options b h rows n e l =
    let same : rows_of b ≡ replicate n None = null_rows b h ∙ ap (λ m. replicate m None) (sym l) in
    ap Some e ∙ all_cast options (cast_value options value_type.String) (rows_of b) (replicate n None) (nulls_at (cast_value options value_type.String) n (rows_of b) same)
