-- Rows across columns, by a fold of steps of two rows.
use Rattle.std.proofs.Common.{◌≡◌, ◌∙◌, ◌<◌, ◌==◌, ℕ, Bool, true, false, cond, List, [], ◌∷◌, map, length, get_or, zero, suc, replicate, Option, Some, None, option_map, ap, refl, subst, arith}
use Rattle.std.specs.Prelude.{Result, Ok, Err, IfOk}
use Rattle.std.specs.List.{range_with_len}
use Rattle.std.specs.Simd.Lanes.{Each1}
use Rattle.px_base.specs.Answer.{GivesOr}
use Rattle.px_base.specs.declared.error.PlanError.{PlanError}
use Rattle.px_base.specs.declared.error.PlanError.TheVariants.{ShapeMismatch}
use Rattle.px_types.specs.declared.value_type.ValueType.{ValueType}
use Rattle.px_semantics.specs.Horizontals.{rows_across, elementwise_all, horizontal_rows}
use Rattle.px_semantics.specs.Rows.{Row, TypedRows, IsRowOf, broadcast_lengths, stretch}
use Rattle.px_semantics.proofs.Joining.{of_type}
use Rattle.px_column.proofs.KernelRows.{refused}
use Rattle.px_horizontals.specs.Inputs.{HaveType, AreTyped}
use Rattle.px_horizontals.proofs.FoldRows.{map_range_same}

-- ---- rows of a type, also past the end

at_each : (P : Row → Type 0) (xs : List Row) (i : ℕ) → P None → Each1 P xs → P (get_or xs i None)
at_each P [] i n h = n
at_each P (x ∷ xs) zero n h = h.0
at_each P (x ∷ xs) (suc i) n h = at_each P xs i n h.1

each_replicated : (P : Row → Type 0) (n : ℕ) (x : Row) → P x → Each1 P (replicate n x)
each_replicated P zero x p = tt
each_replicated P (suc n) x p = (p, each_replicated P n x p)

each_stretched : (P : Row → Type 0) (rows : List Row) (n : ℕ) → P None → Each1 P rows → Each1 P (stretch n rows)
each_stretched P rows n p h = by (length rows == 1)
  where
    by : (b : Bool) → Each1 P (cond b (replicate n (get_or rows 0 None)) rows)
    by true = each_replicated P n (get_or rows 0 None) (at_each P rows 0 p h)
    by false = h

pub each_across : (P : Row → Type 0) (n i : ℕ) (columns : List TypedRows) → P None → Each1 (λ (c : TypedRows). Each1 P c.rows) columns → Each1 P (rows_across (map (stretch n) (map (λ (c : TypedRows). c.rows) columns)) i)
each_across P n i [] p h = tt
each_across P n i (c ∷ columns) p h = (at_each P (stretch n c.rows) i p (each_stretched P c.rows n p h.0), each_across P n i columns p h.1)

pub all_typed : (t : ValueType) (columns : List TypedRows) → HaveType t columns → AreTyped columns → Each1 (λ (c : TypedRows). Each1 (IsRowOf t) c.rows) columns
all_typed t [] e h = tt
all_typed t (c ∷ columns) e h = (subst (λ (k : ValueType). Each1 (IsRowOf k) c.rows) e.0 h.0, all_typed t columns e.1 h.1)

-- ---- one function of rows for another

none_placed : {X Y : Type 0} (g : ℕ → X) (h : ℕ → Y) (o : Option ℕ) → option_map g o ≡ None → option_map h o ≡ None
none_placed g h (Some n) e = cc
none_placed g h None e = refl

untyped_none : (k : ValueType) (o : Option (List Row)) → option_map (of_type k) o ≡ None → o ≡ None
untyped_none k (Some rows) h = cc
untyped_none k None h = refl

module _ (t k : ValueType) (F G : List Row → Row) (law : (x : Row) (xs : List Row) → IsRowOf t x → Each1 (IsRowOf t) xs → F (x ∷ xs) ≡ G (x ∷ xs)) where
  same_lists : (lists : List (List Row)) → ((n i : ℕ) → F (rows_across (map (stretch n) lists) i) ≡ G (rows_across (map (stretch n) lists) i)) → elementwise_all F lists ≡ elementwise_all G lists
  same_lists lists same = by (broadcast_lengths (map length lists))
    where
      by : (o : Option ℕ) → option_map (λ n. map (λ i. F (rows_across (map (stretch n) lists) i)) (range_with_len 0 n)) o ≡ option_map (λ n. map (λ i. G (rows_across (map (stretch n) lists) i)) (range_with_len 0 n)) o
      by (Some n) = ap Some (map_range_same (λ i. F (rows_across (map (stretch n) lists) i)) (λ i. G (rows_across (map (stretch n) lists) i)) None n (λ i l. same n i))
      by None = refl

  same_places : (c : TypedRows) (columns : List TypedRows) → Each1 (λ (d : TypedRows). Each1 (IsRowOf t) d.rows) (c ∷ columns) → (n i : ℕ)
      → F (rows_across (map (stretch n) (map (λ (d : TypedRows). d.rows) (c ∷ columns))) i) ≡ G (rows_across (map (stretch n) (map (λ (d : TypedRows). d.rows) (c ∷ columns))) i)
  same_places c columns h n i =
      let each = each_across (IsRowOf t) n i (c ∷ columns) tt h in
      law (get_or (stretch n c.rows) i None) (rows_across (map (stretch n) (map (λ (d : TypedRows). d.rows) columns)) i) each.0 each.1

  none_horizontal : (columns : List TypedRows) → horizontal_rows k F columns ≡ None → horizontal_rows k G columns ≡ None
  none_horizontal columns h =
      let lists = map (λ (d : TypedRows). d.rows) columns in
      ap (option_map (of_type k))
      (none_placed (λ n. map (λ i. F (rows_across (map (stretch n) lists) i)) (range_with_len 0 n)) (λ n. map (λ i. G (rows_across (map (stretch n) lists) i)) (range_with_len 0 n))
      (broadcast_lengths (map length lists)) (untyped_none k (elementwise_all F lists) h))

  -- an answer by a function of rows is one by an equal function
  pub law_answer : {A : Type 0} (view : A → TypedRows) (columns : List TypedRows) → 0 < length columns → HaveType t columns → (r : Result A PlanError) → IfOk r (λ _. AreTyped columns)
      → GivesOr ShapeMismatch view r (horizontal_rows k F columns) → GivesOr ShapeMismatch view r (horizontal_rows k G columns)
  law_answer view [] some have r typed h = absurd (omega arith)
  law_answer view (c ∷ columns) some have (Ok b) typed h =
      let each = all_typed t (c ∷ columns) have typed in
      h ∙ ap (option_map (of_type k)) (same_lists (map (λ (d : TypedRows). d.rows) (c ∷ columns)) (same_places c columns each))
  law_answer view (c ∷ columns) some have (Err e) typed h = refused e (none_horizontal (c ∷ columns)) h
