-- A range of rows by its bounds.
use Rattle.std.proofs.Common.{◌≡◌, ◌∙◌, ◌&&◌, ℕ, ℤ, pos, ◌+ℤ◌, ◌<ℤ◌, ◌≤ℤ◌, arith, cond, Bool, true, false, List, Option, Some, None, option_map, get_or, length, refl, sym, ap}
use Rattle.std.specs.Prelude.{Result, Ok, Err, slice_range, nat_eq, int_lt}
use Rattle.std.specs.Option.{ok_or}
use Rattle.std.proofs.lemmas.Int.{ints}
use Rattle.px_base.specs.declared.error.PlanError.{PlanError}
use Rattle.px_base.specs.declared.error.PlanError.TheVariants.{ShapeMismatch, OutOfBounds}
use Rattle.px_semantics.specs.Rows.{Row, IntegerValue, TypedRows}
use Rattle.px_semantics.specs.Slices.{clamp, range_start, range_of, rows_between, slice_rows}
use Rattle.px_semantics.proofs.Joining.{of_type}

pub slice_by : (a offset count : TypedRows) (t : Bool) → t ≡ (nat_eq (length offset.rows) 1 && nat_eq (length count.rows) 1) → t ≡ true
    → slice_rows a offset count ≡ ok_or (option_map (of_type a.value_type) (rows_between (get_or offset.rows 0 None) (get_or count.rows 0 None) a.rows)) OutOfBounds
unfolding slice_rows
slice_by a offset count t e h = rw (sym e ∙ h) refl

pub slice_refused : (a offset count : TypedRows) (t : Bool) → t ≡ (nat_eq (length offset.rows) 1 && nat_eq (length count.rows) 1) → t ≡ false → slice_rows a offset count ≡ Err ShapeMismatch
unfolding slice_rows
slice_refused a offset count t e h = rw (sym e ∙ h) refl

-- the range of two numbers
pub range_is : (n : ℕ) (offset count : ℤ) (r : ℕ × ℕ) → pos 0 ≤ℤ count → r.0 ≡ clamp n (range_start n offset) → r.1 ≡ clamp n (range_start n offset +ℤ count)
    → Some r ≡ range_of n (Some (IntegerValue offset)) (Some (IntegerValue count))
range_is n offset count r h p q =
    let none : Option (ℕ × ℕ) = None in
    let test : int_lt count (pos 0) ≡ false = grind (arith, ints) in
    sym (ap (λ (t : Bool). cond t none (Some (clamp n (range_start n offset), clamp n (range_start n offset +ℤ count)))) test
    ∙ ap (λ k. Some (k, clamp n (range_start n offset +ℤ count))) (sym p) ∙ ap (λ k. Some (r.0, k)) (sym q))

pub no_range : (n : ℕ) (offset count : ℤ) → count <ℤ pos 0 → None ≡ range_of n (Some (IntegerValue offset)) (Some (IntegerValue count))
no_range n offset count h =
    let none : Option (ℕ × ℕ) = None in
    let test : int_lt count (pos 0) ≡ true = grind (arith, ints) in
    sym (ap (λ (t : Bool). cond t none (Some (clamp n (range_start n offset), clamp n (range_start n offset +ℤ count)))) test)

-- by the range of the bounds
pub slice_given : (a offset count : TypedRows) (t : Bool) (r : ℕ × ℕ) → t ≡ (nat_eq (length offset.rows) 1 && nat_eq (length count.rows) 1) → t ≡ true
    → Some r ≡ range_of (length a.rows) (get_or offset.rows 0 None) (get_or count.rows 0 None) → slice_rows a offset count ≡ Ok (of_type a.value_type (slice_range a.rows r.0 r.1))
slice_given a offset count t r e h k =
    slice_by a offset count t e h
    ∙ ap (λ (o : Option (ℕ × ℕ)). ok_or (option_map (of_type a.value_type) (option_map (λ (r : ℕ × ℕ). slice_range a.rows r.0 r.1) o)) OutOfBounds) (sym k)

pub slice_outside : (a offset count : TypedRows) (t : Bool) → t ≡ (nat_eq (length offset.rows) 1 && nat_eq (length count.rows) 1) → t ≡ true
    → None ≡ range_of (length a.rows) (get_or offset.rows 0 None) (get_or count.rows 0 None) → slice_rows a offset count ≡ Err OutOfBounds
slice_outside a offset count t e h k =
    slice_by a offset count t e h
    ∙ ap (λ (o : Option (ℕ × ℕ)). ok_or (option_map (of_type a.value_type) (option_map (λ (r : ℕ × ℕ). slice_range a.rows r.0 r.1) o)) OutOfBounds) (sym k)

-- tests and ranges by equal lengths and bounds
pub single_rows : (m n : ℕ) (xs ys : List Row) (t : Bool) → m ≡ length xs → n ≡ length ys → t ≡ (nat_eq m 1 && nat_eq n 1) → t ≡ (nat_eq (length xs) 1 && nat_eq (length ys) 1)
single_rows m n xs ys t p q e = e ∙ ap (λ k. nat_eq k 1 && nat_eq n 1) p ∙ ap (λ k. nat_eq (length xs) 1 && nat_eq k 1) q

pub range_by : (m n : ℕ) (x y u v : Row) (r : Option (ℕ × ℕ)) → m ≡ n → x ≡ u → y ≡ v → r ≡ range_of m x y → r ≡ range_of n u v
range_by m n x y u v r e p q h = h ∙ ap (λ k. range_of k x y) e ∙ ap (λ z. range_of n z y) p ∙ ap (λ z. range_of n u z) q
