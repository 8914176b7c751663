-- An operation on all numbers of rows, as a fold of the numbers.
use Rattle.std.proofs.Common.{◌≡◌, ◌∙◌, ◌≤ℤ◌, ◌<ℤ◌, ◌^◌, ℕ, ℤ, pos, negsuc, Bool, true, false, cond, List, [], ◌∷◌, sym, ap, subst, refl, arith, Some, None, is_some, int_lt, bit_and, bit_or, bit_xor, unsigned_abs, if◌then◌else◌}
use Rattle.std.specs.List.{fold, filter}
use Rattle.std.specs.Int.{cast_signed, cast_unsigned, Width, w8, w16, w32, w64}
use Rattle.std.specs.Int.Bits.{and_self, or_self, xor_zero_l}
use Rattle.std.specs.Ordering.{is_lt}
use Rattle.std.specs.declared.cmp.Ordering.TheVariants.{Less, Equal, Greater}
use Rattle.std.specs.Simd.Lanes.{Each1}
use Rattle.std.specs.Prelude.{FitsSigned}
use Rattle.std.proofs.lemmas.Int.{ints, to_z-of_z}
use Rattle.px_types.specs.Integers.{into, InRange}
use Rattle.px_types.specs.declared.value_type.ValueType.{ValueType}
use Rattle.px_types.specs.declared.value_type.ValueType.TheVariants as value_type
use Rattle.px_semantics.proofs.CastLemmas.{into_keeps}
use Rattle.px_semantics.specs.Aggregates.{numbers_of}
use Rattle.px_semantics.specs.Bitwise.{bitwise}
use Rattle.px_semantics.specs.Comparisons.{less}
use Rattle.px_semantics.specs.Extremes.{min_row, max_row}
use Rattle.px_semantics.specs.Horizontals.{coalesce_row}
use Rattle.px_semantics.specs.Rows.{BooleanValue, StringValue, IntegerValue, Row, IsRowOf, lift}
use Rattle.px_aggregates.specs.Folds.{fold_into}
use Rattle.px_extremes.specs.Choices.{lesser, greater}
use Rattle.px_extremes.specs.Reductions.{reduce_rows}
use Rattle.px_extremes.proofs.ExtremeRows.{no_boolean, no_number, min_row_fold, max_row_fold}

-- the first value is one of the type
pub coalesce_typed : (k : ValueType) (rows : List Row) → Each1 (IsRowOf k) rows → IsRowOf k (coalesce_row rows)
coalesce_typed k [] h = tt
coalesce_typed k (None ∷ rows) h = coalesce_typed k rows h.1
coalesce_typed k (Some x ∷ rows) h = h.0

pub first_in_range : (k : ValueType) (rows : List Row) (z : ℤ) → Each1 (IsRowOf k) rows → Some (IntegerValue z) ≡ coalesce_row rows → InRange k z
first_in_range k rows z h e = subst (IsRowOf k) (sym e) (coalesce_typed k rows h)

-- rows of a type that has a number are null or numbers of the type
numbers_in_range : (k : ValueType) (any : ℤ) → InRange k any → (rows : List Row) → Each1 (IsRowOf k) rows → Each1 (InRange k) (numbers_of rows)
numbers_in_range k any i [] h = tt
numbers_in_range k any i (None ∷ rows) h = numbers_in_range k any i rows h.1
numbers_in_range k any i (Some (IntegerValue z) ∷ rows) h = (h.0, numbers_in_range k any i rows h.1)
numbers_in_range k any i (Some (BooleanValue t) ∷ rows) h = absurd (no_boolean k any i h.0)
numbers_in_range k any i (Some (StringValue s) ∷ rows) h = absurd (no_number k any i h.0)

fold_in_range : (k : ValueType) (f : ℤ → ℤ → ℤ) (a : ℤ) (numbers : List ℤ) → Each1 (InRange k) numbers → fold_into k f a numbers ≡ fold f a numbers
fold_in_range k f a [] h = refl
fold_in_range k f a (n ∷ ns) h = ap (λ z. fold_into k f (f a z) ns) (into_keeps k n h.0) ∙ fold_in_range k f (f a n) ns h.1

fold_rows : (k : ValueType) (any : ℤ) → InRange k any → (f : ℤ → ℤ → ℤ) (a : ℤ) (rows : List Row) → Each1 (IsRowOf k) rows
    → fold (lift f) (Some (IntegerValue a)) (filter is_some rows) ≡ Some (IntegerValue (fold f a (numbers_of rows)))
fold_rows k any i f a [] h = refl
fold_rows k any i f a (None ∷ rows) h = fold_rows k any i f a rows h.1
fold_rows k any i f a (Some (IntegerValue z) ∷ rows) h = fold_rows k any i f (f a z) rows h.1
fold_rows k any i f a (Some (BooleanValue t) ∷ rows) h = absurd (no_boolean k any i h.0)
fold_rows k any i f a (Some (StringValue s) ∷ rows) h = absurd (no_number k any i h.0)

-- a fold that begins with a number that changes the first value to nothing else
pub reduced : (k : ValueType) (any : ℤ) → InRange k any → (f : ℤ → ℤ → ℤ) (start z answer : ℤ) (rows : List Row) → Each1 (IsRowOf k) rows → Some (IntegerValue z) ≡ coalesce_row rows
    → f start z ≡ z → answer ≡ fold_into k f start (numbers_of rows) → Some (IntegerValue answer) ≡ reduce_rows f rows
reduced k any i f start z answer [] h c e p = cc
reduced k any i f start z answer (None ∷ rows) h c e p = reduced k any i f start z answer rows h.1 c e p
reduced k any i f start z answer (Some (IntegerValue w) ∷ rows) h c e p =
    let same : z ≡ w = cc in
    let first : f start (into k w) ≡ w = ap (f start) (into_keeps k w h.0 ∙ sym same) ∙ e ∙ same in
    ap (λ n. Some (IntegerValue n)) (p ∙ ap (λ n. fold_into k f n (numbers_of rows)) first ∙ fold_in_range k f w (numbers_of rows) (numbers_in_range k any i rows h.1))
    ∙ sym (fold_rows k any i f w rows h.1)
reduced k any i f start z answer (Some (BooleanValue t) ∷ rows) h c e p = absurd (no_boolean k any i h.0)
reduced k any i f start z answer (Some (StringValue s) ∷ rows) h c e p = absurd (no_number k any i h.0)

pub reduced_none : (f : ℤ → ℤ → ℤ) (rows : List Row) → None ≡ coalesce_row rows → None ≡ reduce_rows f rows
reduced_none f [] e = refl
reduced_none f (None ∷ rows) e = reduced_none f rows e
reduced_none f (Some x ∷ rows) e = cc

-- a step of rows that is an operation on their numbers
step_numbers : (k : ValueType) (any : ℤ) → InRange k any → (f : ℤ → ℤ → ℤ) (step : Row → Row → Row) → ((a z : ℤ) → step (Some (IntegerValue a)) (Some (IntegerValue z)) ≡ Some (IntegerValue (f a z)))
    → ((a : ℤ) → step (Some (IntegerValue a)) None ≡ Some (IntegerValue a)) → (a : ℤ) (rows : List Row) → Each1 (IsRowOf k) rows → fold step (Some (IntegerValue a)) rows ≡ Some (IntegerValue (fold f a (numbers_of rows)))
step_numbers k any i f step p q a [] h = refl
step_numbers k any i f step p q a (None ∷ rows) h = ap (λ r. fold step r rows) (q a) ∙ step_numbers k any i f step p q a rows h.1
step_numbers k any i f step p q a (Some (IntegerValue z) ∷ rows) h = ap (λ r. fold step r rows) (p a z) ∙ step_numbers k any i f step p q (f a z) rows h.1
step_numbers k any i f step p q a (Some (BooleanValue t) ∷ rows) h = absurd (no_boolean k any i h.0)
step_numbers k any i f step p q a (Some (StringValue s) ∷ rows) h = absurd (no_number k any i h.0)

step_rows : (k : ValueType) (any : ℤ) → InRange k any → (f : ℤ → ℤ → ℤ) (step : Row → Row → Row) → ((a z : ℤ) → step (Some (IntegerValue a)) (Some (IntegerValue z)) ≡ Some (IntegerValue (f a z)))
    → ((a : ℤ) → step (Some (IntegerValue a)) None ≡ Some (IntegerValue a)) → ((x : Row) → step None x ≡ x) → (rows : List Row) → Each1 (IsRowOf k) rows → fold step None rows ≡ reduce_rows f rows
step_rows k any i f step p q n [] h = refl
step_rows k any i f step p q n (None ∷ rows) h = ap (λ r. fold step r rows) (n None) ∙ step_rows k any i f step p q n rows h.1
step_rows k any i f step p q n (Some (IntegerValue z) ∷ rows) h =
    ap (λ r. fold step r rows) (n (Some (IntegerValue z))) ∙ step_numbers k any i f step p q z rows h.1 ∙ sym (fold_rows k any i f z rows h.1)
step_rows k any i f step p q n (Some (BooleanValue t) ∷ rows) h = absurd (no_boolean k any i h.0)
step_rows k any i f step p q n (Some (StringValue s) ∷ rows) h = absurd (no_number k any i h.0)

less_integers : (x y : ℤ) → less (IntegerValue x) (IntegerValue y) ≡ int_lt x y
less_integers x y = by (int_lt x y) (int_lt y x)
  where
    by : (b c : Bool) → is_lt (cond b Less (cond c Greater Equal)) ≡ b
    by true c = refl
    by false true = refl
    by false false = refl

chosen_integer : (b c : Bool) (x y : ℤ) → b ≡ c → cond b (Some (IntegerValue x)) (Some (IntegerValue y)) ≡ Some (IntegerValue (cond c x y))
chosen_integer true true x y e = refl
chosen_integer false false x y e = refl
chosen_integer true false x y e = cc
chosen_integer false true x y e = cc

-- the least number and the greatest
pub min_reduced : (k : ValueType) (any : ℤ) → InRange k any → (rows : List Row) → Each1 (IsRowOf k) rows → reduce_rows (λ x y. if int_lt y x then y else x) rows ≡ min_row rows
min_reduced k any i rows h =
    sym (step_rows k any i (λ x y. if int_lt y x then y else x) lesser (λ a z. chosen_integer (less (IntegerValue z) (IntegerValue a)) (int_lt z a) z a (less_integers z a)) (λ a. refl) (λ x. refl) rows h)
    ∙ sym (min_row_fold k rows h)

pub max_reduced : (k : ValueType) (any : ℤ) → InRange k any → (rows : List Row) → Each1 (IsRowOf k) rows → reduce_rows (λ x y. if int_lt x y then y else x) rows ≡ max_row rows
max_reduced k any i rows h =
    sym (step_rows k any i (λ x y. if int_lt x y then y else x) greater (λ a z. chosen_integer (less (IntegerValue a) (IntegerValue z)) (int_lt a z) z a (less_integers a z)) (λ a. refl) (λ x. refl) rows h)
    ∙ sym (max_row_fold k rows h)

pub same_choice : (b : Bool) (z : ℤ) → cond b z z ≡ z
same_choice true z = refl
same_choice false z = refl

natural : (z : ℤ) → pos 0 ≤ℤ z → pos (unsigned_abs z) ≡ z
natural (pos a) h = refl
natural (negsuc a) h = absurd (omega (arith, ints))

signed_same : (w : Width) (n : ℕ) (z : ℤ) → n ≡ cast_unsigned w z → FitsSigned w z → cast_signed w n ≡ z
signed_same w n z e h = ap (cast_signed w) e ∙ to_z-of_z w z h

unsigned_same : (n : ℕ) (z : ℤ) → n ≡ unsigned_abs z → pos 0 ≤ℤ z → pos n ≡ z
unsigned_same n z e h = ap pos e ∙ natural z h

-- the bits that a number and itself have
pub and_itself : (k : ValueType) (z : ℤ) → InRange k z → bitwise bit_and k z z ≡ z
and_itself value_type.Null z h = absurd h
and_itself value_type.Boolean z h = absurd h
and_itself value_type.String z h = absurd h
and_itself value_type.UInt8 z h = unsigned_same (bit_and (unsigned_abs z) (unsigned_abs z)) z (and_self (unsigned_abs z)) h.0
and_itself value_type.UInt16 z h = unsigned_same (bit_and (unsigned_abs z) (unsigned_abs z)) z (and_self (unsigned_abs z)) h.0
and_itself value_type.UInt32 z h = unsigned_same (bit_and (unsigned_abs z) (unsigned_abs z)) z (and_self (unsigned_abs z)) h.0
and_itself value_type.UInt64 z h = unsigned_same (bit_and (unsigned_abs z) (unsigned_abs z)) z (and_self (unsigned_abs z)) h.0
and_itself value_type.Int8 z h = signed_same w8 (bit_and (cast_unsigned w8 z) (cast_unsigned w8 z)) z (and_self (cast_unsigned w8 z)) h
and_itself value_type.Int16 z h = signed_same w16 (bit_and (cast_unsigned w16 z) (cast_unsigned w16 z)) z (and_self (cast_unsigned w16 z)) h
and_itself value_type.Int32 z h = signed_same w32 (bit_and (cast_unsigned w32 z) (cast_unsigned w32 z)) z (and_self (cast_unsigned w32 z)) h
and_itself value_type.Int64 z h = signed_same w64 (bit_and (cast_unsigned w64 z) (cast_unsigned w64 z)) z (and_self (cast_unsigned w64 z)) h

-- the bits that a number or itself has
pub or_itself : (k : ValueType) (z : ℤ) → InRange k z → bitwise bit_or k z z ≡ z
or_itself value_type.Null z h = absurd h
or_itself value_type.Boolean z h = absurd h
or_itself value_type.String z h = absurd h
or_itself value_type.UInt8 z h = unsigned_same (bit_or (unsigned_abs z) (unsigned_abs z)) z (or_self (unsigned_abs z)) h.0
or_itself value_type.UInt16 z h = unsigned_same (bit_or (unsigned_abs z) (unsigned_abs z)) z (or_self (unsigned_abs z)) h.0
or_itself value_type.UInt32 z h = unsigned_same (bit_or (unsigned_abs z) (unsigned_abs z)) z (or_self (unsigned_abs z)) h.0
or_itself value_type.UInt64 z h = unsigned_same (bit_or (unsigned_abs z) (unsigned_abs z)) z (or_self (unsigned_abs z)) h.0
or_itself value_type.Int8 z h = signed_same w8 (bit_or (cast_unsigned w8 z) (cast_unsigned w8 z)) z (or_self (cast_unsigned w8 z)) h
or_itself value_type.Int16 z h = signed_same w16 (bit_or (cast_unsigned w16 z) (cast_unsigned w16 z)) z (or_self (cast_unsigned w16 z)) h
or_itself value_type.Int32 z h = signed_same w32 (bit_or (cast_unsigned w32 z) (cast_unsigned w32 z)) z (or_self (cast_unsigned w32 z)) h
or_itself value_type.Int64 z h = signed_same w64 (bit_or (cast_unsigned w64 z) (cast_unsigned w64 z)) z (or_self (cast_unsigned w64 z)) h

-- 0 changes no bit
pub zero_xor : (k : ValueType) (z : ℤ) → InRange k z → bitwise bit_xor k (pos 0) z ≡ z
zero_xor value_type.Null z h = absurd h
zero_xor value_type.Boolean z h = absurd h
zero_xor value_type.String z h = absurd h
zero_xor value_type.UInt8 z h = unsigned_same (bit_xor 0 (unsigned_abs z)) z (xor_zero_l (unsigned_abs z)) h.0
zero_xor value_type.UInt16 z h = unsigned_same (bit_xor 0 (unsigned_abs z)) z (xor_zero_l (unsigned_abs z)) h.0
zero_xor value_type.UInt32 z h = unsigned_same (bit_xor 0 (unsigned_abs z)) z (xor_zero_l (unsigned_abs z)) h.0
zero_xor value_type.UInt64 z h = unsigned_same (bit_xor 0 (unsigned_abs z)) z (xor_zero_l (unsigned_abs z)) h.0
zero_xor value_type.Int8 z h = signed_same w8 (bit_xor 0 (cast_unsigned w8 z)) z (xor_zero_l (cast_unsigned w8 z)) h
zero_xor value_type.Int16 z h = signed_same w16 (bit_xor 0 (cast_unsigned w16 z)) z (xor_zero_l (cast_unsigned w16 z)) h
zero_xor value_type.Int32 z h = signed_same w32 (bit_xor 0 (cast_unsigned w32 z)) z (xor_zero_l (cast_unsigned w32 z)) h
zero_xor value_type.Int64 z h = signed_same w64 (bit_xor 0 (cast_unsigned w64 z)) z (xor_zero_l (cast_unsigned w64 z)) h
