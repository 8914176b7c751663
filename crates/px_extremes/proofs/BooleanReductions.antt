-- The least and the greatest Boolean, and the bits of all Booleans, by which of them there are.
use Rattle.std.proofs.Common.{◌≡◌, ◌∙◌, ◌+◌, ◌%◌, ◌<◌, ◌≤◌, ◌||◌, ℕ, Bool, true, false, not, cond, List, [], ◌∷◌, length, count_by, sym, ap, refl, arith, nat_eq, nat_lt, Some, None, is_some, is_none, if◌then◌else◌}
use Rattle.std.specs.List.{fold, filter, list_any}
use Rattle.std.specs.Simd.Lanes.{Each1}
use Rattle.std.proofs.lemmas.Bool.Decides.{nat_tests}
use Rattle.std.proofs.lemmas.List.Sums.{sum_by-cons}
use Rattle.px_types.specs.declared.function.BitwiseFunction.TheVariants as bitwise
use Rattle.px_types.specs.declared.operator.Operator.TheVariants as op
use Rattle.px_types.specs.declared.value_type.ValueType.TheVariants as value_type
use Rattle.px_semantics.specs.Bits.{bit_reduce_row}
use Rattle.px_semantics.specs.Extremes.{min_row, max_row}
use Rattle.px_semantics.specs.Logic.{is_true, is_false, logic_row}
use Rattle.px_semantics.specs.Rows.{BooleanValue, StringValue, IntegerValue, Row, IsRowOf}
use Rattle.px_extremes.specs.Choices.{lesser, greater}
use Rattle.px_extremes.proofs.ExtremeRows.{min_row-cons, max_row-cons}

-- the row of a Boolean where there is one such row, else that of another, else null
abbrev pub decided : Bool → Bool → Bool → Row
decided t found other = if found then Some (BooleanValue t) else (if other then Some (BooleanValue (not t)) else None)

pub decided_first : (t found other : Bool) → found ≡ true → Some (BooleanValue t) ≡ decided t found other
decided_first t true other e = refl
decided_first t false other e = cc

pub decided_second : (t found other : Bool) → found ≡ false → other ≡ true → Some (BooleanValue (not t)) ≡ decided t found other
decided_second t true other e f = cc
decided_second t false true e f = refl
decided_second t false false e f = cc

pub decided_none : (t found other : Bool) → found ≡ false → other ≡ false → None ≡ decided t found other
decided_none t true other e f = cc
decided_none t false true e f = cc
decided_none t false false e f = refl

lesser_true : (found other : Bool) → decided false found true ≡ lesser (Some (BooleanValue true)) (decided false found other)
lesser_true true other = refl
lesser_true false true = refl
lesser_true false false = refl

lesser_false : (found other : Bool) → Some (BooleanValue false) ≡ lesser (Some (BooleanValue false)) (decided false found other)
lesser_false true other = refl
lesser_false false true = refl
lesser_false false false = refl

greater_false : (found other : Bool) → decided true found true ≡ greater (Some (BooleanValue false)) (decided true found other)
greater_false true other = refl
greater_false false true = refl
greater_false false false = refl

greater_true : (found other : Bool) → Some (BooleanValue true) ≡ greater (Some (BooleanValue true)) (decided true found other)
greater_true true other = refl
greater_true false true = refl
greater_true false false = refl

-- the least Boolean is false where one is false, and the greatest is true where one is true
pub min_decided : (rows : List Row) → Each1 (IsRowOf value_type.Boolean) rows → decided false (list_any is_false rows) (list_any is_true rows) ≡ min_row rows
min_decided [] h = refl
min_decided (None ∷ rows) h = min_decided rows h.1 ∙ sym (min_row-cons value_type.Boolean None rows tt h.1)
min_decided (Some (BooleanValue true) ∷ rows) h =
    lesser_true (list_any is_false rows) (list_any is_true rows) ∙ ap (lesser (Some (BooleanValue true))) (min_decided rows h.1) ∙ sym (min_row-cons value_type.Boolean (Some (BooleanValue true)) rows tt h.1)
min_decided (Some (BooleanValue false) ∷ rows) h =
    lesser_false (list_any is_false rows) (list_any is_true rows) ∙ ap (lesser (Some (BooleanValue false))) (min_decided rows h.1) ∙ sym (min_row-cons value_type.Boolean (Some (BooleanValue false)) rows tt h.1)
min_decided (Some (StringValue s) ∷ rows) h = absurd h.0
min_decided (Some (IntegerValue z) ∷ rows) h = absurd h.0

pub max_decided : (rows : List Row) → Each1 (IsRowOf value_type.Boolean) rows → decided true (list_any is_true rows) (list_any is_false rows) ≡ max_row rows
max_decided [] h = refl
max_decided (None ∷ rows) h = max_decided rows h.1 ∙ sym (max_row-cons value_type.Boolean None rows tt h.1)
max_decided (Some (BooleanValue true) ∷ rows) h =
    greater_true (list_any is_true rows) (list_any is_false rows) ∙ ap (greater (Some (BooleanValue true))) (max_decided rows h.1) ∙ sym (max_row-cons value_type.Boolean (Some (BooleanValue true)) rows tt h.1)
max_decided (Some (BooleanValue false) ∷ rows) h =
    greater_false (list_any is_true rows) (list_any is_false rows) ∙ ap (greater (Some (BooleanValue false))) (max_decided rows h.1) ∙ sym (max_row-cons value_type.Boolean (Some (BooleanValue false)) rows tt h.1)
max_decided (Some (StringValue s) ∷ rows) h = absurd h.0
max_decided (Some (IntegerValue z) ∷ rows) h = absurd h.0

same_either : (b : Bool) (x : Row) → x ≡ (if b then x else x)
same_either true x = refl
same_either false x = refl

and_false : (rows : List Row) → Each1 (IsRowOf value_type.Boolean) rows → fold (logic_row op.And value_type.Boolean) (Some (BooleanValue false)) (filter is_some rows) ≡ Some (BooleanValue false)
and_false [] h = refl
and_false (None ∷ rows) h = and_false rows h.1
and_false (Some (BooleanValue true) ∷ rows) h = and_false rows h.1
and_false (Some (BooleanValue false) ∷ rows) h = and_false rows h.1
and_false (Some (StringValue s) ∷ rows) h = absurd h.0
and_false (Some (IntegerValue z) ∷ rows) h = absurd h.0

and_true : (rows : List Row) → Each1 (IsRowOf value_type.Boolean) rows → decided false (list_any is_false rows) true ≡ fold (logic_row op.And value_type.Boolean) (Some (BooleanValue true)) (filter is_some rows)
and_true [] h = refl
and_true (None ∷ rows) h = and_true rows h.1
and_true (Some (BooleanValue true) ∷ rows) h = and_true rows h.1
and_true (Some (BooleanValue false) ∷ rows) h = sym (and_false rows h.1)
and_true (Some (StringValue s) ∷ rows) h = absurd h.0
and_true (Some (IntegerValue z) ∷ rows) h = absurd h.0

or_true : (rows : List Row) → Each1 (IsRowOf value_type.Boolean) rows → fold (logic_row op.Or value_type.Boolean) (Some (BooleanValue true)) (filter is_some rows) ≡ Some (BooleanValue true)
or_true [] h = refl
or_true (None ∷ rows) h = or_true rows h.1
or_true (Some (BooleanValue true) ∷ rows) h = or_true rows h.1
or_true (Some (BooleanValue false) ∷ rows) h = or_true rows h.1
or_true (Some (StringValue s) ∷ rows) h = absurd h.0
or_true (Some (IntegerValue z) ∷ rows) h = absurd h.0

or_false : (rows : List Row) → Each1 (IsRowOf value_type.Boolean) rows → decided true (list_any is_true rows) true ≡ fold (logic_row op.Or value_type.Boolean) (Some (BooleanValue false)) (filter is_some rows)
or_false [] h = refl
or_false (None ∷ rows) h = or_false rows h.1
or_false (Some (BooleanValue true) ∷ rows) h = sym (or_true rows h.1)
or_false (Some (BooleanValue false) ∷ rows) h = or_false rows h.1
or_false (Some (StringValue s) ∷ rows) h = absurd h.0
or_false (Some (IntegerValue z) ∷ rows) h = absurd h.0

-- the conjunction of all values, and the disjunction
pub and_decided : (rows : List Row) → Each1 (IsRowOf value_type.Boolean) rows → decided false (list_any is_false rows) (list_any is_true rows) ≡ bit_reduce_row bitwise.And value_type.Boolean rows
and_decided [] h = refl
and_decided (None ∷ rows) h = and_decided rows h.1
and_decided (Some (BooleanValue true) ∷ rows) h = and_true rows h.1
and_decided (Some (BooleanValue false) ∷ rows) h = sym (and_false rows h.1)
and_decided (Some (StringValue s) ∷ rows) h = absurd h.0
and_decided (Some (IntegerValue z) ∷ rows) h = absurd h.0

pub or_decided : (rows : List Row) → Each1 (IsRowOf value_type.Boolean) rows → decided true (list_any is_true rows) (list_any is_false rows) ≡ bit_reduce_row bitwise.Or value_type.Boolean rows
or_decided [] h = refl
or_decided (None ∷ rows) h = or_decided rows h.1
or_decided (Some (BooleanValue true) ∷ rows) h = sym (or_true rows h.1)
or_decided (Some (BooleanValue false) ∷ rows) h = or_false rows h.1
or_decided (Some (StringValue s) ∷ rows) h = absurd h.0
or_decided (Some (IntegerValue z) ∷ rows) h = absurd h.0

abbrev pub odd : ℕ → Bool
odd n = nat_eq (n % 2) 1

counted_true : (rows : List Row) → count_by is_true (Some (BooleanValue true) ∷ rows) ≡ 1 + count_by is_true rows
counted_true rows = sum_by-cons (λ x. cond (is_true x) 1 0) (Some (BooleanValue true)) rows

counted_false : (rows : List Row) → count_by is_true (Some (BooleanValue false) ∷ rows) ≡ count_by is_true rows
counted_false rows = let e : count_by is_true (Some (BooleanValue false) ∷ rows) ≡ 0 + count_by is_true rows = sum_by-cons (λ x. cond (is_true x) 1 0) (Some (BooleanValue false)) rows in omega (arith, e)

counted_null : (rows : List Row) → count_by is_true (None ∷ rows) ≡ count_by is_true rows
counted_null rows = let e : count_by is_true (None ∷ rows) ≡ 0 + count_by is_true rows = sum_by-cons (λ x. cond (is_true x) 1 0) None rows in omega (arith, e)

xor_true : (t : Bool) → logic_row op.Xor value_type.Boolean (Some (BooleanValue t)) (Some (BooleanValue true)) ≡ Some (BooleanValue (not t))
xor_true true = refl
xor_true false = refl

xor_false : (t : Bool) → logic_row op.Xor value_type.Boolean (Some (BooleanValue t)) (Some (BooleanValue false)) ≡ Some (BooleanValue t)
xor_false true = refl
xor_false false = refl

next_odd : (n : ℕ) → not (odd n) ≡ odd (n + 1)
next_odd n = grind (arith, nat_tests)

xor_fold : (n : ℕ) (rows : List Row) → Each1 (IsRowOf value_type.Boolean) rows
    → fold (logic_row op.Xor value_type.Boolean) (Some (BooleanValue (odd n))) (filter is_some rows) ≡ Some (BooleanValue (odd (n + count_by is_true rows)))
xor_fold n [] h = let e : n ≡ n + 0 = omega arith in ap (λ k. Some (BooleanValue (odd k))) e
xor_fold n (None ∷ rows) h = xor_fold n rows h.1 ∙ ap (λ k. Some (BooleanValue (odd (n + k)))) (sym (counted_null rows))
xor_fold n (Some (BooleanValue true) ∷ rows) h =
    let e : n + 1 + count_by is_true rows ≡ n + count_by is_true (Some (BooleanValue true) ∷ rows) = omega (arith, counted_true rows) in
    ap (λ r. fold (logic_row op.Xor value_type.Boolean) r (filter is_some rows)) (xor_true (odd n) ∙ ap (λ b. Some (BooleanValue b)) (next_odd n))
    ∙ xor_fold (n + 1) rows h.1 ∙ ap (λ k. Some (BooleanValue (odd k))) e
xor_fold n (Some (BooleanValue false) ∷ rows) h =
    ap (λ r. fold (logic_row op.Xor value_type.Boolean) r (filter is_some rows)) (xor_false (odd n)) ∙ xor_fold n rows h.1 ∙ ap (λ k. Some (BooleanValue (odd (n + k)))) (sym (counted_false rows))
xor_fold n (Some (StringValue s) ∷ rows) h = absurd h.0
xor_fold n (Some (IntegerValue z) ∷ rows) h = absurd h.0

-- the exclusive or of all values
pub xor_counted : (rows : List Row) (n : ℕ) → Each1 (IsRowOf value_type.Boolean) rows → n ≡ count_by is_true rows → list_any is_some rows ≡ true → Some (BooleanValue (odd n)) ≡ bit_reduce_row bitwise.Xor value_type.Boolean rows
xor_counted [] n h e f = cc
xor_counted (None ∷ rows) n h e f = xor_counted rows n h.1 (e ∙ counted_null rows) f
xor_counted (Some (BooleanValue true) ∷ rows) n h e f = ap (λ k. Some (BooleanValue (odd k))) (e ∙ counted_true rows) ∙ sym (xor_fold 1 rows h.1)
xor_counted (Some (BooleanValue false) ∷ rows) n h e f =
    let zero : count_by is_true rows ≡ 0 + count_by is_true rows = omega arith in
    ap (λ k. Some (BooleanValue (odd k))) (e ∙ counted_false rows ∙ zero) ∙ sym (xor_fold 0 rows h.1)
xor_counted (Some (StringValue s) ∷ rows) n h e f = absurd h.0
xor_counted (Some (IntegerValue z) ∷ rows) n h e f = absurd h.0

pub xor_none : (rows : List Row) → list_any is_some rows ≡ false → None ≡ bit_reduce_row bitwise.Xor value_type.Boolean rows
xor_none [] f = refl
xor_none (None ∷ rows) f = xor_none rows f
xor_none (Some x ∷ rows) f = cc
