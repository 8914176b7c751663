-- Sums of rows, a step at a time, and all at once.
use Rattle.std.proofs.Common.{◌≡◌, ◌∙◌, ◌⊎◌, inl, inr, ◌+ℤ◌, ℕ, ℤ, pos, List, [], ◌∷◌, map, length, get_or, replicate, Bool, true, false, cond, Option, Some, None, option_map, is_none, sym, ap, refl, subst, arith, Bor}
use Rattle.std.specs.Prelude.{Result, Ok, Err, IfOk, IfErr}
use Rattle.std.specs.List.{fold, list_any, range_with_len}
use Rattle.std.specs.Simd.Lanes.{Each1}
use Rattle.std.proofs.lemmas.Int.{ints}
use Rattle.std.proofs.lemmas.List.{length-replicate, get_or-replicate}
use Rattle.px_base.specs.Answer.{GivesOr}
use Rattle.px_base.specs.declared.error.PlanError.{PlanError}
use Rattle.px_base.specs.declared.error.PlanError.TheVariants.{OutOfMemory, ShapeMismatch}
use Rattle.px_types.specs.Integers.{into, IsInteger}
use Rattle.px_types.proofs.Wrapping.{into-add_left}
use Rattle.px_types.specs.declared.value_type.ValueType.{ValueType}
use Rattle.px_types.specs.declared.value_type.ValueType.TheVariants as value_type
use Rattle.px_semantics.specs.Aggregates.{number_of, numbers_of}
use Rattle.px_semantics.specs.Horizontals.{rows_across, elementwise_all, sum_horizontal_row, sum_horizontal_type, sum_horizontal_rows}
use Rattle.px_semantics.specs.Rows.{Row, TypedRows, BooleanValue, StringValue, IntegerValue, IsRowOf, IsBoolean, broadcast_lengths, integer_row, stretch}
use Rattle.px_semantics.proofs.Joining.{of_type}
use Rattle.px_column.specs.Buffers.{values_of}
use Rattle.px_column.specs.ColumnOf.{type_of, rows_of}
use Rattle.px_column.specs.declared.buffer.Buffer.{Buffer}
use Rattle.px_horizontals.specs.Folds.{fold_lists, FitLength}
use Rattle.px_horizontals.specs.Inputs.{values_of_buffers, rows_of_buffers, HaveType, AreTyped, TypesAre}
use Rattle.px_horizontals.specs.Sums.{added, SumsUp}
use Rattle.px_horizontals.proofs.FoldRows.{fold_across, fit_length, map_range_same, buffer_rows}
use Rattle.px_horizontals.proofs.HorizontalRows.{each_across, all_typed}

pub number_back : (o : Option ℤ) → number_of (integer_row o) ≡ o
number_back (Some z) = refl
number_back None = refl

add_zero : (z : ℤ) → z +ℤ pos 0 ≡ z
add_zero z = omega (arith, ints)

-- the exact sum from a number on
abbrev sum_from : ℤ → List ℤ → ℤ
sum_from a numbers = fold (λ x y. x +ℤ y) a numbers

-- the row is no string
abbrev NoString : Row → Type 0
NoString (Some (StringValue s)) = ⊥
NoString row = Unit {0}

module _ (k : ValueType) where
  null_stays : (xs : List Row) → fold (added false k) None xs ≡ None
  null_stays [] = refl
  null_stays (Some (BooleanValue b) ∷ xs) = null_stays xs
  null_stays (Some (IntegerValue z) ∷ xs) = null_stays xs
  null_stays (Some (StringValue s) ∷ xs) = null_stays xs
  null_stays (None ∷ xs) = null_stays xs

  step : (ig : Bool) (a z : ℤ) (xs : List Row) → fold (added ig k) (Some (IntegerValue (into k (into k a +ℤ z)))) xs ≡ fold (added ig k) (Some (IntegerValue (into k (a +ℤ z)))) xs
  step ig a z xs = ap (λ n. fold (added ig k) (Some (IntegerValue n)) xs) (into-add_left k a z)

  -- a null makes the sum null
  totals : (a : ℤ) (xs : List Row) → Each1 NoString xs
      → fold (added false k) (Some (IntegerValue (into k a))) xs ≡ cond (list_any is_none xs) None (Some (IntegerValue (into k (sum_from a (numbers_of xs)))))
  totals a [] h = refl
  totals a (Some (IntegerValue z) ∷ xs) h = step false a z xs ∙ totals (a +ℤ z) xs h.1
  totals a (Some (BooleanValue true) ∷ xs) h = step false a (pos 1) xs ∙ totals (a +ℤ pos 1) xs h.1
  totals a (Some (BooleanValue false) ∷ xs) h = step false a (pos 0) xs ∙ totals (a +ℤ pos 0) xs h.1
  totals a (Some (StringValue s) ∷ xs) h = absurd h.0
  totals a (None ∷ xs) h = null_stays xs

  -- a null is left out
  known_totals : (a : ℤ) (xs : List Row) → fold (added true k) (Some (IntegerValue (into k a))) xs ≡ Some (IntegerValue (into k (sum_from a (numbers_of xs))))
  known_totals a [] = refl
  known_totals a (Some (IntegerValue z) ∷ xs) = step true a z xs ∙ known_totals (a +ℤ z) xs
  known_totals a (Some (BooleanValue true) ∷ xs) = step true a (pos 1) xs ∙ known_totals (a +ℤ pos 1) xs
  known_totals a (Some (BooleanValue false) ∷ xs) = step true a (pos 0) xs ∙ known_totals (a +ℤ pos 0) xs
  known_totals a (Some (StringValue s) ∷ xs) = known_totals a xs
  known_totals a (None ∷ xs) = known_totals a xs

  -- the sum from 0 on
  pub sum_law : (ig : Bool) (xs : List Row) → Each1 NoString xs → fold (added ig k) (Some (IntegerValue (into k (pos 0)))) xs ≡ sum_horizontal_row k ig xs
  sum_law true xs h = known_totals (pos 0) xs
  sum_law false xs h = totals (pos 0) xs h

no_string : (t : ValueType) (row : Row) → IsBoolean t ⊎ IsInteger t → IsRowOf t row → NoString row
no_string t None h p = tt
no_string t (Some (BooleanValue b)) h p = tt
no_string t (Some (IntegerValue z)) h p = tt
no_string value_type.String (Some (StringValue s)) (inl h) p = h
no_string value_type.String (Some (StringValue s)) (inr h) p = h
no_string value_type.Null (Some (StringValue s)) h p = p
no_string value_type.Boolean (Some (StringValue s)) h p = p
no_string value_type.UInt8 (Some (StringValue s)) h p = p
no_string value_type.UInt16 (Some (StringValue s)) h p = p
no_string value_type.UInt32 (Some (StringValue s)) h p = p
no_string value_type.UInt64 (Some (StringValue s)) h p = p
no_string value_type.Int8 (Some (StringValue s)) h p = p
no_string value_type.Int16 (Some (StringValue s)) h p = p
no_string value_type.Int32 (Some (StringValue s)) h p = p
no_string value_type.Int64 (Some (StringValue s)) h p = p

no_strings : (t : ValueType) (rows : List Row) → IsBoolean t ⊎ IsInteger t → Each1 (IsRowOf t) rows → Each1 NoString rows
no_strings t [] h p = tt
no_strings t (x ∷ xs) h p = (no_string t x h p.0, no_strings t xs h p.1)

no_strings_each : (t : ValueType) (columns : List TypedRows) → IsBoolean t ⊎ IsInteger t → Each1 (λ (c : TypedRows). Each1 (IsRowOf t) c.rows) columns → Each1 (λ (c : TypedRows). Each1 NoString c.rows) columns
no_strings_each t [] h p = tt
no_strings_each t (c ∷ columns) h p = (no_strings t c.rows h p.0, no_strings_each t columns h p.1)

-- the sums of all columns, from as many zeros on
sums_across : (t k : ValueType) (ig : Bool) (n : ℕ) (columns : List TypedRows) → IsBoolean t ⊎ IsInteger t → HaveType t columns → AreTyped columns → broadcast_lengths (map length (map (λ (c : TypedRows). c.rows) columns)) ≡ Some n
    → Some (fold_lists (added ig k) n (replicate n (Some (IntegerValue (into k (pos 0))))) (map (λ (c : TypedRows). c.rows) columns)) ≡ elementwise_all (sum_horizontal_row k ig) (map (λ (c : TypedRows). c.rows) columns)
sums_across t k ig n columns b e h f =
    let lists = map (λ (c : TypedRows). c.rows) columns in
    let zero : Row = Some (IntegerValue (into k (pos 0))) in
    let each = no_strings_each t columns b (all_typed t columns e h) in
    ap Some
    (fold_across (added ig k) n (replicate n zero) lists (length-replicate n zero) (fit_length n lists f)
    ∙ map_range_same (λ i. fold (added ig k) (get_or (replicate n zero) i None) (rows_across (map (stretch n) lists) i)) (λ i. sum_horizontal_row k ig (rows_across (map (stretch n) lists) i)) None n
    (λ i l. ap (λ row. fold (added ig k) row (rows_across (map (stretch n) lists) i)) (get_or-replicate n i zero None l)
    ∙ sum_law k ig (rows_across (map (stretch n) lists) i) (each_across NoString n i columns tt each)))
    ∙ sym (ap (option_map (λ n. map (λ i. sum_horizontal_row k ig (rows_across (map (stretch n) lists) i)) (range_with_len 0 n))) f)

-- the buffers that are summed up
pub takes_sums : (t s : ValueType) (buffers : List (Bor Buffer)) → IsBoolean t ⊎ IsInteger t → s ≡ sum_horizontal_type t → HaveType t (values_of_buffers buffers) → TypesAre (SumsUp s) buffers
takes_sums t s [] b e h = tt
takes_sums t s (x ∷ xs) b e h = (subst (λ (j : ValueType). SumsUp s j) (sym h.0) (b, sym e), takes_sums t s xs b e h.1)

pub fit_buffers : (n : ℕ) (start : List Row) (zero : Row) (buffers : List (Bor Buffer)) → start ≡ replicate n zero → Some n ≡ broadcast_lengths (map length (rows_of_buffers buffers)) → FitLength (length start) (rows_of_buffers buffers)
fit_buffers n start zero buffers e h =
    subst (λ (m : ℕ). FitLength m (rows_of_buffers buffers)) (sym (ap length e ∙ length-replicate n zero)) (fit_length n (rows_of_buffers buffers) (sym h))

-- the answer of a sum from zeros on
pub sum_answer : (ig : Bool) (t : ValueType) (n : ℕ) (start : Buffer) (buffers : List (Bor Buffer)) (r : Result Buffer PlanError)
    → IsBoolean t ⊎ IsInteger t → HaveType t (values_of_buffers buffers) → AreTyped (values_of_buffers buffers)
    → Some n ≡ broadcast_lengths (map length (rows_of_buffers buffers))
    → type_of start ≡ sum_horizontal_type t → rows_of start ≡ replicate n (Some (IntegerValue (into (sum_horizontal_type t) (pos 0))))
    → IfOk r (λ b. type_of b ≡ type_of start)
    → IfOk r (λ b. rows_of b ≡ fold_lists (added ig (type_of start)) (length (rows_of start)) (rows_of start) (rows_of_buffers buffers))
    → IfErr r (λ e. e ≡ OutOfMemory)
    → GivesOr ShapeMismatch values_of r (sum_horizontal_rows t ig (values_of_buffers buffers))
unfolding sum_horizontal_rows
sum_answer ig t n start buffers (Err e) b have typed hl ht hr q rows h = inl h
sum_answer ig t n start buffers (Ok answer) b have typed hl ht hr q rows h =
    let k = sum_horizontal_type t in
    let zero : Row = Some (IntegerValue (into k (pos 0))) in
    let lists = rows_of_buffers buffers in
    let same = buffer_rows buffers in
    let all : rows_of answer ≡ fold_lists (added ig k) n (replicate n zero) lists =
    rows
    ∙ ap (λ j. fold_lists (added ig j) (length (rows_of start)) (rows_of start) lists) ht
    ∙ ap (λ s. fold_lists (added ig k) (length s) s lists) hr
    ∙ ap (λ m. fold_lists (added ig k) m (replicate n zero) lists) (length-replicate n zero) in
    ap (λ j. Some (of_type j (rows_of answer))) (q ∙ ht)
    ∙ ap (λ s. Some (of_type k s)) (all ∙ ap (fold_lists (added ig k) n (replicate n zero)) (sym same))
    ∙ ap (option_map (of_type k)) (sums_across t k ig n (values_of_buffers buffers) b have typed (ap (λ l. broadcast_lengths (map length l)) same ∙ sym hl))
