-- What the laws of selected rows rest on.
use Rattle.std.proofs.Common.{◌≡◌, ◌∙◌, ◌+◌, ◌-◌, ◌<◌, ◌≤◌, ◌^◌, ◌++◌, ℕ, ℤ, pos, ◌+ℤ◌, min, nat_lt, cond, Bool, true, false, not, List, Option, Some, None, is_some, is_none, option_map, length, map, take, drop, filter, refl, sym, ap, arith}
use Rattle.std.specs.Prelude.{Result, Ok, slice_range, int_lt}
use Rattle.std.specs.Option.{ok_or}
use Rattle.std.specs.List.{items_where_true}
use Rattle.std.proofs.lemmas.Int.{ints}
use Rattle.std.proofs.lemmas.List.{length-map, length-append, take_at, take_all, drop_at}
use Rattle.std.proofs.lemmas.List.Sums.{length-filter}
use Rattle.std.proofs.lemmas.List.Filters.{length-filter_both}
use Rattle.px_arrays.proofs.Bitmaps.{maps, map_same}
use Rattle.px_semantics.specs.Logic.{is_true, value_row, tested_rows}
use Rattle.px_semantics.specs.Rows.{Row, TypedRows, null_count}
use Rattle.px_semantics.proofs.Joining.{of_type}
use Rattle.px_base.specs.declared.error.PlanError.{PlanError}
use Rattle.px_base.specs.declared.error.PlanError.TheVariants.{OutOfBounds}
use Rattle.px_types.specs.declared.value_type.ValueType.{ValueType}
use Rattle.px_semantics.specs.Slices.{clamp, append_rows, slice_rows}
use Rattle.px_selection.specs.Laws.{number_rows}
use Rattle.px_semantics.specs.Filters.{drop_null_rows, filter_rows}
use Rattle.px_selection.proofs.Taken.{where_test}
use Rattle.px_selection.proofs.Masked.{masked_same}

some_test : (x : Row) → is_some x ≡ not (is_none x)
some_test None = refl
some_test (Some d) = refl

pub nulls_add_up : (rows : List Row) → null_count rows + length (filter is_some rows) ≡ length rows
nulls_add_up rows = ap (λ k. k + length (filter is_some rows)) (sym (length-filter is_none rows)) ∙ length-filter_both is_none is_some some_test rows

value_test : (x : Row) → is_true (value_row x) ≡ is_some x
value_test None = refl
value_test (Some d) = refl

pub by_not_null : (a : TypedRows) → filter_rows a (tested_rows value_row a) ≡ Some (drop_null_rows a)
unfolding filter_rows
by_not_null a =
    ap (option_map (of_type a.value_type)) (sym (masked_same (map value_row a.rows) a.rows (sym (length-map a.rows value_row))))
    ∙ ap (λ (l : List Bool). Some (of_type a.value_type (items_where_true l a.rows))) (maps value_row is_true a.rows ∙ map_same (λ x. is_true (value_row x)) is_some a.rows value_test)
    ∙ ap (λ (l : List Row). Some (of_type a.value_type l)) (where_test is_some a.rows)

-- ---- the parts of two columns as one

not_negative : (n : ℕ) → int_lt (pos n) (pos 0) ≡ false
not_negative n = grind (arith, ints)

-- a range that lies inside
slice_at : (k : ValueType) (rows : List Row) (i m : ℕ) → i + m ≤ length rows → slice_rows (of_type k rows) (number_rows i) (number_rows m) ≡ Ok (of_type k (take m (drop i rows)))
unfolding slice_rows
slice_at k rows i m h =
    let n = length rows in
    let none : Option (ℕ × ℕ) = None in
    let start : Bool → ℤ = λ t. cond t (pos i +ℤ pos n) (pos i) in
    let f : Bool → Bool → Result TypedRows PlanError = λ s t.
    ok_or (option_map (of_type k) (option_map (λ (r : ℕ × ℕ). slice_range rows r.0 r.1) (cond s none (Some (clamp n (start t), clamp n (start t +ℤ pos m)))))) OutOfBounds in
    let first : min i n ≡ i = omega arith in
    let last : min (i + m) n ≡ i + m = omega arith in
    let count : (i + m) - i ≡ m = omega arith in
    ap (λ (s : Bool). f s (int_lt (pos i) (pos 0))) (not_negative m)
    ∙ ap (λ (t : Bool). f false t) (not_negative i)
    ∙ ap (λ j. Ok (of_type k (slice_range rows j (min (i + m) n)))) first
    ∙ ap (λ j. Ok (of_type k (slice_range rows i j))) last
    ∙ ap (λ j. Ok (of_type k (take j (drop i rows)))) count

appended : (a b both : TypedRows) → append_rows a b ≡ Some both → of_type a.value_type (a.rows ++ b.rows) ≡ both
unfolding append_rows
appended a b both h = by (nat_lt (length a.rows + length b.rows) (2 ^ 32)) h
  where
    by : (t : Bool) → cond t (Some (of_type a.value_type (a.rows ++ b.rows))) None ≡ Some both → of_type a.value_type (a.rows ++ b.rows) ≡ both
    by true e = cc
    by false e = cc

pub parts : (a b both : TypedRows) → a.value_type ≡ b.value_type → append_rows a b ≡ Some both
    → (slice_rows both (number_rows 0) (number_rows (length a.rows)) ≡ Ok a) × (slice_rows both (number_rows (length a.rows)) (number_rows (length b.rows)) ≡ Ok b)
parts a b both same h =
    let k = a.value_type in
    let xs = a.rows in
    let ys = b.rows in
    let rows = xs ++ ys in
    let whole : both ≡ of_type k rows = sym (appended a b both h) in (
      ap (λ (c : TypedRows). slice_rows c (number_rows 0) (number_rows (length xs))) whole
          ∙ slice_at k rows 0 (length xs) (omega (arith, length-append xs ys))
          ∙ ap (λ (l : List Row). Ok (of_type k l)) (take_at xs ys (length xs) refl),
      ap (λ (c : TypedRows). slice_rows c (number_rows (length xs)) (number_rows (length ys))) whole
          ∙ slice_at k rows (length xs) (length ys) (omega (arith, length-append xs ys))
          ∙ ap (λ (l : List Row). Ok (of_type k (take (length ys) l))) (drop_at xs ys (length xs) refl)
          ∙ ap (λ (l : List Row). Ok (of_type k l)) (take_all (length ys) ys (omega arith))
          ∙ ap (λ (t : ValueType). Ok (of_type t ys)) same,
    )
