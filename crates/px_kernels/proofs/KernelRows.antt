-- Answers of kernels, from the rows of their buffers.
use Rattle.std.proofs.Common.{◌≡◌, ◌∙◌, ◌⊎◌, inl, inr, List, ap, Some, None, option_map}
use Rattle.std.specs.Prelude.{Result, Ok, Err, IfOk}
use Rattle.px_base.specs.Answer.{GivesOr}
use Rattle.px_base.specs.declared.error.PlanError.{PlanError}
use Rattle.px_base.specs.declared.error.PlanError.TheVariants.{OutOfMemory, ShapeMismatch}
use Rattle.px_types.specs.declared.operator.Operator.{Operator}
use Rattle.px_types.specs.declared.value_type.ValueType.{ValueType}
use Rattle.px_types.specs.declared.value_type.ValueType.TheVariants.{Boolean}
use Rattle.px_semantics.specs.Arithmetic.{arith_row, arith_rows}
use Rattle.px_semantics.specs.Comparisons.{compare_row, compare_rows}
use Rattle.px_semantics.specs.Rows.{Row, TypedRows, elementwise}
use Rattle.px_column.specs.ColumnOf.{type_of, rows_of}
use Rattle.px_column.specs.declared.buffer.Buffer.{Buffer}
use Rattle.px_semantics.proofs.Joining.{of_type}
use Rattle.px_column.specs.Buffers.{values_of}

-- a refusal for a cause that brings another
pub refused : {P Q : Type 0} (e : PlanError) → (P → Q) → (e ≡ OutOfMemory) ⊎ ((e ≡ ShapeMismatch) × P) → (e ≡ OutOfMemory) ⊎ ((e ≡ ShapeMismatch) × Q)
refused e f (inl h) = inl h
refused e f (inr h) = inr (h.0, f h.1)

-- the type and the rows of an answer as one
pub typed : (k : ValueType) (rows : List Row) (r : Result Buffer PlanError) → IfOk r (λ c. type_of c ≡ k) → IfOk r (λ c. rows_of c ≡ rows) → IfOk r (λ c. values_of c ≡ of_type k rows)
typed k rows (Ok c) p q = ap (λ j. of_type j (rows_of c)) p ∙ ap (of_type k) q
typed k rows (Err e) p q = tt

pub compare_gives : (o : Operator) (a b : TypedRows) (rows : List Row) → Some rows ≡ elementwise (compare_row o) a.rows b.rows → Some (of_type Boolean rows) ≡ compare_rows o a b
unfolding compare_rows
compare_gives o a b rows e = ap (option_map (of_type Boolean)) e

pub compare_none : (o : Operator) (a b : TypedRows) → elementwise (compare_row o) a.rows b.rows ≡ None → compare_rows o a b ≡ None
unfolding compare_rows
compare_none o a b e = ap (option_map (of_type Boolean)) e

pub arith_gives : (o : Operator) (a b r : TypedRows) → r.value_type ≡ a.value_type → Some r.rows ≡ elementwise (arith_row o a.value_type) a.rows b.rows → Some r ≡ arith_rows o a b
unfolding arith_rows
arith_gives o a b r h e = ap (λ k. Some (of_type k r.rows)) h ∙ ap (option_map (of_type a.value_type)) e

pub arith_none : (o : Operator) (a b : TypedRows) → elementwise (arith_row o a.value_type) a.rows b.rows ≡ None → arith_rows o a b ≡ None
unfolding arith_rows
arith_none o a b e = ap (option_map (of_type a.value_type)) e

-- the same of an answer whose type and rows are known, and of a refusal
pub arith_answer : (o : Operator) (a b : TypedRows) (r : Result Buffer PlanError) → IfOk r (λ c. type_of c ≡ a.value_type)
    → GivesOr ShapeMismatch rows_of r (elementwise (arith_row o a.value_type) a.rows b.rows) → GivesOr ShapeMismatch values_of r (arith_rows o a b)
arith_answer o a b (Ok c) h e = arith_gives o a b (values_of c) h e
arith_answer o a b (Err x) h e = refused x (arith_none o a b) e
