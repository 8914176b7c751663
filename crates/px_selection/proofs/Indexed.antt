-- Rows by indices.
use Rattle.std.proofs.Common.{◌≡◌, ◌≢◌, ◌∙◌, ◌⊎◌, inl, inr, ◌+◌, ◌-◌, ◌<◌, ◌≤◌, ◌&&◌, not, ℕ, ℤ, pos, negsuc, ◌<ℤ◌, ◌≤ℤ◌, zero, suc, Bool, true, false, cond, List, [], ◌∷◌, ◌++◌, Option, Some, None, is_some, option_map, option_and_then, length, map, get_or, take, refl, sym, ap, arith}
use Rattle.px_base.specs.Answer.{AnswersOrMemory}
use Rattle.std.specs.Prelude.{Result, Ok, Err, IfOk, IfErr, unsigned_abs, nat_lt, nat_le, nat_eq}
use Rattle.std.specs.Option.{ok_or, unwrap_or}
use Rattle.std.specs.List.{list_all}
use Rattle.std.proofs.lemmas.Bool.Decides.{nat_tests}
use Rattle.std.proofs.lemmas.Int.{ints}
use Rattle.std.proofs.lemmas.List.{take_more, map_more, get_or_past}
use Rattle.px_arrays.proofs.Bitmaps.{maps}
use Rattle.px_base.specs.declared.error.PlanError.{PlanError}
use Rattle.px_base.specs.declared.error.PlanError.TheVariants.{OutOfMemory, ShapeMismatch, OutOfBounds}
use Rattle.px_semantics.specs.Rows.{Row, TypedRows, BooleanValue, StringValue, IntegerValue}
use Rattle.px_semantics.proofs.Joining.{of_type}
use Rattle.px_types.specs.declared.value_type.ValueType.{ValueType}
use Rattle.px_semantics.specs.Gathers.{position_of, is_inside, row_at, rows_at, gather_rows}
use Rattle.px_selection.specs.Positions.{at_positions, position_at, position_or_end}

-- an index is inside exactly where it has a position
pub inside_position : (n : ℕ) (row : Row) → is_inside n row ≡ is_some (position_at n row)
inside_position n (Some (BooleanValue b)) = refl
inside_position n (Some (StringValue s)) = refl
inside_position n (Some (IntegerValue z)) = refl
inside_position n None = refl

-- the row at the position of an index
row_of_position : (rows : List Row) (row : Row) → get_or rows (position_or_end (length rows) row) None ≡ row_at rows row
row_of_position rows (Some (BooleanValue b)) = get_or_past rows (length rows) None (omega arith)
row_of_position rows (Some (StringValue s)) = get_or_past rows (length rows) None (omega arith)
row_of_position rows None = get_or_past rows (length rows) None (omega arith)
row_of_position rows (Some (IntegerValue z)) = by (position_of (length rows) z)
  where
    by : (o : Option ℕ) → get_or rows (unwrap_or o (length rows)) None ≡ option_and_then (λ position. get_or rows position None) o
    by (Some position) = refl
    by None = get_or_past rows (length rows) None (omega arith)

pub taken_rows : (rows indices : List Row) (n : ℕ) → n ≡ length rows → at_positions None rows (map (position_or_end n) indices) ≡ map (row_at rows) indices
taken_rows rows [] n e = refl
taken_rows rows (i ∷ rest) n e =
    ap (λ l. get_or rows (position_or_end n i) None ∷ l) (taken_rows rows rest n e)
    ∙ ap (λ r. r ∷ map (row_at rows) rest) (ap (λ k. get_or rows (position_or_end k i) None) e ∙ row_of_position rows i)

all-append : {A : Type 0} (p : A → Bool) (xs : List A) (x : A) → list_all p xs ≡ true → p x ≡ true → list_all p (xs ++ x ∷ []) ≡ true
all-append p [] x h k = ap (λ b. b && true) k
all-append p (y ∷ ys) x h k = by (p y) h (all-append p ys x)
  where
    by : (b : Bool) → (b && list_all p ys) ≡ true → (list_all p ys ≡ true → p x ≡ true → list_all p (ys ++ x ∷ []) ≡ true) → (b && list_all p (ys ++ x ∷ [])) ≡ true
    by true h rest = rest h k
    by false h rest = h

-- one index more
pub all_more : {A : Type 0} (p : A → Bool) (xs : List A) (i : ℕ) (d : A) → i < length xs → list_all p (take i xs) ≡ true → p (get_or xs i d) ≡ true → list_all p (take (i + 1) xs) ≡ true
all_more p xs i d h all here = ap (list_all p) (take_more xs i d h) ∙ all-append p (take i xs) (get_or xs i d) all here

pub map_one_more : {A B : Type 0} (f : A → B) (xs : List A) (i : ℕ) (d : A) (y : B) → i < length xs → y ≡ f (get_or xs i d) → map f (take i xs) ++ y ∷ [] ≡ map f (take (i + 1) xs)
map_one_more f xs i d y h e = ap (λ r. map f (take i xs) ++ r ∷ []) e ∙ sym (map_more f xs i d h)

-- one that fails
pub all_fails : {A : Type 0} (p : A → Bool) (xs : List A) (i : ℕ) (d : A) → i < length xs → p (get_or xs i d) ≡ false → list_all p xs ≡ false
all_fails p [] i d h e = absurd (omega arith)
all_fails p (x ∷ xs) zero d h e = ap (λ b. b && list_all p xs) e
all_fails p (x ∷ xs) (suc i) d h e = ap (λ b. p x && b) (all_fails p xs i d (omega arith) e) ∙ no_more (p x)
  where
    no_more : (b : Bool) → (b && false) ≡ false
    no_more true = refl
    no_more false = refl

pub gather_refused : (a indices : TypedRows) (scalar t : Bool) → t ≡ (scalar && not (nat_eq (length indices.rows) 1)) → t ≡ true → gather_rows a indices scalar ≡ Err ShapeMismatch
unfolding gather_rows
gather_refused a indices scalar t e h = rw (sym e ∙ h) refl

-- there is no scalar, or one index
pub gather_by : (a indices : TypedRows) (scalar t : Bool) → t ≡ (scalar && not (nat_eq (length indices.rows) 1)) → t ≡ false
    → gather_rows a indices scalar ≡ ok_or (option_map (of_type a.value_type) (rows_at indices.rows a.rows)) OutOfBounds
unfolding gather_rows
gather_by a indices scalar t e h = rw (sym e ∙ h) refl

pub gathered : (k : ValueType) (rows indices : List Row) → list_all (is_inside (length rows)) indices ≡ true
    → ok_or (option_map (of_type k) (rows_at indices rows)) OutOfBounds ≡ Ok (of_type k (map (row_at rows) indices))
gathered k rows indices h = rw h refl

pub not_gathered : (k : ValueType) (rows indices : List Row) → list_all (is_inside (length rows)) indices ≡ false
    → ok_or (option_map (of_type k) (rows_at indices rows)) OutOfBounds ≡ Err OutOfBounds
not_gathered k rows indices h = rw h refl

pub gather_error : (a indices : TypedRows) (scalar t : Bool) (e : PlanError) → t ≡ (scalar && not (nat_eq (length indices.rows) 1)) → t ≡ false
    → (e ≡ OutOfMemory) ⊎ ((e ≡ OutOfBounds) × (list_all (is_inside (length a.rows)) indices.rows ≡ false)) → (e ≡ OutOfMemory) ⊎ (gather_rows a indices scalar ≡ Err e)
gather_error a indices scalar t e h k (inl m) = inl m
gather_error a indices scalar t e h k (inr m) = inr (gather_by a indices scalar t h k ∙ not_gathered a.value_type a.rows indices.rows m.1 ∙ ap Err (sym m.0))
