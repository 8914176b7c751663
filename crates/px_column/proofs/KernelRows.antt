-- Answers of kernels, from the rows of their buffers.
use Rattle.std.proofs.Common.{◌≡◌, ◌∙◌, ◌⊎◌, inl, inr, ℕ, Bool, true, false, not, List, [], ◌∷◌, map, sym, ap, refl, Some, None, is_some, is_none, option_map, get_or, zero, suc, ◌+◌, replicate, cond}
use Rattle.std.specs.List.{count_by}
use Rattle.std.proofs.lemmas.List.Sums.{sum_by-cons}
use Rattle.px_base.specs.declared.error.PlanError.{PlanError}
use Rattle.px_base.specs.declared.error.PlanError.TheVariants.{OutOfMemory, ShapeMismatch}
use Rattle.px_types.specs.declared.operator.Operator.{Operator}
use Rattle.px_types.specs.declared.value_type.ValueType.{ValueType}
use Rattle.px_semantics.specs.Logic.{logic_row, logic_rows, null_row, value_row}
use Rattle.px_semantics.specs.Rows.{Row, Datum, TypedRows, broadcast_rows, elementwise, null_count}
use Rattle.px_arrays.specs.BitmapOf.{non_null}

-- a refusal for a cause that brings another
pub refused : {P Q : Type 0} (e : PlanError) → (P → Q) → (e ≡ OutOfMemory) ⊎ ((e ≡ ShapeMismatch) × P) → (e ≡ OutOfMemory) ⊎ ((e ≡ ShapeMismatch) × Q)
refused e f (inl h) = inl h
refused e f (inr h) = inr (h.0, f h.1)

-- rows under a type
abbrev pub of_type : ValueType → List Row → TypedRows
of_type value_type rows = record { value_type = value_type; rows = rows }

joined_gives : (f : Row → Row → Row) (value_type : ValueType) (xs ys : List Row) (r : TypedRows) → r.value_type ≡ value_type → Some r.rows ≡ elementwise f xs ys → Some r ≡ broadcast_rows value_type f xs ys
joined_gives f value_type xs ys r h e = ap (λ k. Some (of_type k r.rows)) h ∙ ap (option_map (of_type value_type)) e

broadcast_none : (f : Row → Row → Row) (value_type : ValueType) (xs ys : List Row) → elementwise f xs ys ≡ None → broadcast_rows value_type f xs ys ≡ None
broadcast_none f value_type xs ys e = ap (option_map (of_type value_type)) e

pub logic_gives : (op : Operator) (a b r : TypedRows) → r.value_type ≡ a.value_type → Some r.rows ≡ elementwise (logic_row op a.value_type) a.rows b.rows → Some r ≡ logic_rows op a b
unfolding logic_rows
logic_gives op a b r h e = joined_gives (logic_row op a.value_type) a.value_type a.rows b.rows r h e

pub logic_none : (op : Operator) (a b : TypedRows) → elementwise (logic_row op a.value_type) a.rows b.rows ≡ None → logic_rows op a b ≡ None
unfolding logic_rows
logic_none op a b e = broadcast_none (logic_row op a.value_type) a.value_type a.rows b.rows e

-- the flags of values that are missing, and of those that are there
pub missing_flags : (rows : List Row) → map non_null (map not (map is_some rows)) ≡ map null_row rows
missing_flags [] = refl
missing_flags (Some x ∷ rows) = ap (λ l. non_null false ∷ l) (missing_flags rows)
missing_flags (None ∷ rows) = ap (λ l. non_null true ∷ l) (missing_flags rows)

pub present_flags : (rows : List Row) → map non_null (map is_some rows) ≡ map value_row rows
present_flags [] = refl
present_flags (Some x ∷ rows) = ap (λ l. non_null true ∷ l) (present_flags rows)
present_flags (None ∷ rows) = ap (λ l. non_null false ∷ l) (present_flags rows)

pub count_missing : (rows : List Row) → count_by not (map is_some rows) ≡ null_count rows
count_missing [] = refl
count_missing (Some x ∷ rows) =
    sum_by-cons (λ b. cond (not b) 1 0) true (map is_some rows) ∙ ap (λ n. 0 + n) (count_missing rows) ∙ sym (sum_by-cons (λ (r : Row). cond (is_none r) 1 0) (Some x) rows)
count_missing (None ∷ rows) =
    sum_by-cons (λ b. cond (not b) 1 0) false (map is_some rows) ∙ ap (λ n. 1 + n) (count_missing rows) ∙ sym (sum_by-cons (λ (r : Row). cond (is_none r) 1 0) None rows)

-- bit i of what a test says of rows, also past the end
pub flag_at : (test : Row → Bool) → test None ≡ false → (rows : List Row) (i : ℕ) → get_or (map test rows) i false ≡ test (get_or rows i None)
flag_at test none [] i = sym none
flag_at test none (x ∷ rows) zero = refl
flag_at test none (x ∷ rows) (suc i) = flag_at test none rows i

no_value : (n : ℕ) → replicate n false ≡ map (is_some {T = Datum}) (replicate n None)
no_value zero = refl
no_value (suc n) = ap (λ l. false ∷ l) (no_value n)

-- no null is valid
pub nulls_valid : (n : ℕ) (rows : List Row) → rows ≡ replicate n None → replicate n false ≡ map is_some rows
nulls_valid n rows e = no_value n ∙ sym (ap (map is_some) e)

all_missing : (n : ℕ) → map non_null (replicate n true) ≡ map null_row (replicate n None)
all_missing zero = refl
all_missing (suc n) = ap (λ l. non_null true ∷ l) (all_missing n)

-- each null is null
pub nulls_missing : (n : ℕ) (rows : List Row) → rows ≡ replicate n None → map non_null (replicate n true) ≡ map null_row rows
nulls_missing n rows e = all_missing n ∙ sym (ap (map null_row) e)
