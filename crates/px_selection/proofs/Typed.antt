-- Answers of calls.
use Rattle.std.proofs.Common.{◌≡◌, ◌∙◌, inl, List, ap}
use Rattle.std.specs.Prelude.{Result, Ok, Err, IfOk, IfErr}
use Rattle.px_base.specs.Answer.{AnswersOrMemory}
use Rattle.px_base.specs.declared.error.PlanError.{PlanError}
use Rattle.px_base.specs.declared.error.PlanError.TheVariants.{OutOfMemory}
use Rattle.px_column.specs.ColumnOf.{type_of, rows_of}
use Rattle.px_column.specs.declared.buffer.Buffer.{Buffer}
use Rattle.px_semantics.specs.Rows.{Row}
use Rattle.px_semantics.proofs.Joining.{of_type}
use Rattle.px_types.specs.declared.value_type.ValueType.{ValueType}
use Rattle.px_column.specs.Buffers.{values_of}

-- the type and the rows of an answer as one
pub typed : (k : ValueType) (rows : List Row) (r : Result Buffer PlanError) → IfOk r (λ c. type_of c ≡ k) → IfOk r (λ c. rows_of c ≡ rows) → IfOk r (λ c. values_of c ≡ of_type k rows)
typed k rows (Ok c) p q = ap (λ j. of_type j (rows_of c)) p ∙ ap (of_type k) q
typed k rows (Err e) p q = tt

-- the answer that is expected, and else out of memory
pub answers_each : {A B : Type 0} (view : A → B) (r : Result A PlanError) (o : Result B PlanError) → IfOk r (λ a. o ≡ Ok (view a)) → IfErr r (λ e. e ≡ OutOfMemory) → AnswersOrMemory view r o
answers_each view (Ok a) o h k = h
answers_each view (Err e) o h k = inl k
