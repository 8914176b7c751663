-- Counts of rows.
use Rattle.std.proofs.Common.{◌≡◌, ◌∙◌, ◌<◌, ◌≤◌, ◌+◌, ◌-◌, ◌||◌, ◌^◌, ◌+ℤ◌, ℕ, ℤ, pos, Bool, true, false, not, cond, List, [], ◌∷◌, length, map, count_by, sym, ap, refl, arith, zero, suc, nat_lt, Option, Some, None, is_some, is_none, if◌then◌else◌}
use Rattle.std.specs.List.{list_any, fold}
use Rattle.std.specs.Simd.Lanes.{Each1}
use Rattle.std.proofs.lemmas.List.Sums.{sum_by-cons, count_by-le-length}
use Rattle.std.proofs.lemmas.Bool.{lt-ltb}
use Rattle.std.proofs.lemmas.Int.{ints}
use lib.IntN.{pos-+ℤ-pos}
use Rattle.px_types.specs.Integers.{into}
use Rattle.px_semantics.proofs.CastLemmas.{into_keeps}
use Rattle.px_semantics.specs.Logic.{is_true, is_false}
use Rattle.px_semantics.specs.Rows.{Datum, Row, BooleanValue, StringValue, IntegerValue, IsRowOf, null_count}
use Rattle.px_semantics.specs.Aggregates.{count_of, numbers_of, sum_of}
use Rattle.px_types.specs.declared.value_type.ValueType.TheVariants as value_type

count_true : {A : Type 0} (p : A → Bool) (x : A) (xs : List A) → p x ≡ true → count_by p (x ∷ xs) ≡ 1 + count_by p xs
count_true p x xs e = sum_by-cons (λ x. cond (p x) 1 0) x xs ∙ ap (λ b. cond b 1 0 + count_by p xs) e

count_false : {A : Type 0} (p : A → Bool) (x : A) (xs : List A) → p x ≡ false → count_by p (x ∷ xs) ≡ count_by p xs
count_false p x xs e =
    let h : count_by p (x ∷ xs) ≡ 0 + count_by p xs = sum_by-cons (λ x. cond (p x) 1 0) x xs ∙ ap (λ b. cond b 1 0 + count_by p xs) e in
    omega (arith, h)

-- an item passes the test where the count of those that do is not 0
pub any_counted : {A : Type 0} (p : A → Bool) (xs : List A) → list_any p xs ≡ nat_lt 0 (count_by p xs)
any_counted p [] = refl
any_counted p (x ∷ xs) = by (p x) refl (any_counted p xs)
  where
    positive : (n m : ℕ) → n ≡ 1 + m → true ≡ nat_lt 0 n
    positive n m e = sym (lt-ltb 0 n (omega arith))

    by : (b : Bool) → p x ≡ b → list_any p xs ≡ nat_lt 0 (count_by p xs) → list_any p (x ∷ xs) ≡ nat_lt 0 (count_by p (x ∷ xs))
    by true e rest = ap (λ b. b || list_any p xs) e ∙ positive (count_by p (x ∷ xs)) (count_by p xs) (count_true p x xs e)
    by false e rest = ap (λ b. b || list_any p xs) e ∙ rest ∙ sym (ap (nat_lt 0) (count_false p x xs e))

-- the items that pass and those that do not are all
pub both_counted : {A : Type 0} (p : A → Bool) (xs : List A) → count_by p xs + count_by not (map p xs) ≡ length xs
both_counted p [] = refl
both_counted p (x ∷ xs) = by (p x) refl (both_counted p xs)
  where
    by : (b : Bool) → p x ≡ b → count_by p xs + count_by not (map p xs) ≡ length xs → count_by p (x ∷ xs) + count_by not (map p (x ∷ xs)) ≡ length (x ∷ xs)
    by true e rest = omega (arith, count_true p x xs e, count_false not (p x) (map p xs) (ap not e), rest)
    by false e rest = omega (arith, count_false p x xs e, count_true not (p x) (map p xs) (ap not e), rest)

-- the rows that are null, by the bits
pub nulls_counted : (rows : List Row) → count_by not (map is_some rows) ≡ count_by is_none rows
nulls_counted [] = refl
nulls_counted (None ∷ rows) = omega (arith, count_true not false (map is_some rows) refl, count_true is_none None rows refl, nulls_counted rows)
nulls_counted (Some x ∷ rows) = omega (arith, count_false not true (map is_some rows) refl, count_false is_none (Some x) rows refl, nulls_counted rows)

-- the rows that are not true are false or null
pub false_counted : (rows : List Row) → Each1 (IsRowOf value_type.Boolean) rows → count_by not (map is_true rows) ≡ count_by not (map is_some rows) + count_by is_false rows
false_counted [] h = refl
false_counted (None ∷ rows) h =
    omega (arith, count_true not false (map is_true rows) refl, count_true not false (map is_some rows) refl, count_false is_false None rows refl, false_counted rows h.1)
false_counted (Some (BooleanValue true) ∷ rows) h =
    omega (arith, count_false not true (map is_true rows) refl, count_false not true (map is_some rows) refl, count_false is_false (Some (BooleanValue true)) rows refl, false_counted rows h.1)
false_counted (Some (BooleanValue false) ∷ rows) h =
    omega (arith, count_true not false (map is_true rows) refl, count_false not true (map is_some rows) refl, count_true is_false (Some (BooleanValue false)) rows refl, false_counted rows h.1)
false_counted (Some (StringValue s) ∷ rows) h = absurd h.0
false_counted (Some (IntegerValue z) ∷ rows) h = absurd h.0

-- the values are the rows without the nulls
pub values_counted : (rows : List Row) → count_by is_some rows + count_by is_none rows ≡ length rows
values_counted rows = omega (arith, both_counted is_some rows, nulls_counted rows)

-- the row that the first of two tests to hold decides
pub first_decides : (found unknown : Bool) (x y z : Row) → found ≡ true → x ≡ (if found then x else (if unknown then y else z))
first_decides true unknown x y z e = refl
first_decides false unknown x y z e = cc

pub second_decides : (found unknown : Bool) (x y z : Row) → found ≡ false → unknown ≡ true → y ≡ (if found then x else (if unknown then y else z))
second_decides true unknown x y z e f = cc
second_decides false true x y z e f = refl
second_decides false false x y z e f = cc

pub neither_decides : (found unknown : Bool) (x y z : Row) → found ≡ false → unknown ≡ false → z ≡ (if found then x else (if unknown then y else z))
neither_decides true unknown x y z e f = cc
neither_decides false true x y z e f = cc
neither_decides false false x y z e f = refl

-- the number of rows, where the nulls are left out
pub nulls_left_out : (include_nulls : Bool) (rows : List Row) (n k : ℕ) → include_nulls ≡ false → n ≡ length rows → k ≡ null_count rows → n - k ≡ count_of include_nulls rows
nulls_left_out true rows n k e p q = cc
nulls_left_out false rows n k e p q = omega (arith, values_counted rows, p, q)

true_sum : (rows : List Row) → Each1 (IsRowOf value_type.Boolean) rows → (a : ℕ) → fold (λ x y. x +ℤ y) (pos a) (numbers_of rows) ≡ pos (a + count_by is_true rows)
true_sum [] h a = let e : a ≡ a + 0 = omega arith in ap pos e
true_sum (None ∷ rows) h a = true_sum rows h.1 a ∙ ap (λ n. pos (a + n)) (sym (count_false is_true None rows refl))
true_sum (Some (BooleanValue true) ∷ rows) h a =
    let e : a + 1 + count_by is_true rows ≡ a + count_by is_true (Some (BooleanValue true) ∷ rows) = omega (arith, count_true is_true (Some (BooleanValue true)) rows refl) in
    ap (λ s. fold (λ x y. x +ℤ y) s (numbers_of rows)) (pos-+ℤ-pos a 1) ∙ true_sum rows h.1 (a + 1) ∙ ap pos e
true_sum (Some (BooleanValue false) ∷ rows) h a =
    let e : a + 0 + count_by is_true rows ≡ a + count_by is_true (Some (BooleanValue false) ∷ rows) = omega (arith, count_false is_true (Some (BooleanValue false)) rows refl) in
    ap (λ s. fold (λ x y. x +ℤ y) s (numbers_of rows)) (pos-+ℤ-pos a 0) ∙ true_sum rows h.1 (a + 0) ∙ ap pos e
true_sum (Some (StringValue s) ∷ rows) h a = absurd h.0
true_sum (Some (IntegerValue z) ∷ rows) h a = absurd h.0

-- the sum of Booleans is the number of those that are true
pub boolean_sum : (rows : List Row) (n : ℕ) → Each1 (IsRowOf value_type.Boolean) rows → n ≡ count_by is_true rows → n < 2 ^ 32 → pos n ≡ into value_type.UInt32 (sum_of (numbers_of rows))
boolean_sum rows n h e l =
    let same : pos n ≡ sum_of (numbers_of rows) = ap pos e ∙ sym (true_sum rows h 0 ∙ ap pos (let z : 0 + count_by is_true rows ≡ count_by is_true rows = omega arith in z)) in
    sym (into_keeps value_type.UInt32 (pos n) (omega (arith, ints), omega (arith, ints))) ∙ ap (into value_type.UInt32) same
