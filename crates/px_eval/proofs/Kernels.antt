-- The answers of kernels on buffers, from their types and their rows.
use Rattle.std.proofs.Common.{◌≡◌, ◌∙◌, ◌⊎◌, ap, Some, None}
use Rattle.std.specs.Prelude.{Result, Ok, Err, IfOk, IfErr}
use Rattle.px_base.specs.Answer.{GivesOr}
use Rattle.px_base.specs.declared.error.PlanError.{PlanError}
use Rattle.px_base.specs.declared.error.PlanError.TheVariants.{OutOfMemory, ShapeMismatch}
use Rattle.px_types.specs.declared.operator.Operator.{Operator}
use Rattle.px_semantics.specs.Logic.{logic_row, logic_rows}
use Rattle.px_semantics.specs.Rows.{TypedRows, elementwise}
use Rattle.px_column.specs.ColumnOf.{type_of, rows_of}
use Rattle.px_column.specs.declared.buffer.Buffer.{Buffer}
use Rattle.px_column.proofs.KernelRows.{of_type, refused, logic_gives, logic_none}
use Rattle.px_column.specs.Buffers.{values_of}

-- a buffer of this type and these rows
pub buffer_is : (a : TypedRows) (b : Buffer) → type_of b ≡ a.value_type → rows_of b ≡ a.rows → values_of b ≡ a
buffer_is a b h e = ap (λ k. of_type k (rows_of b)) h ∙ ap (of_type a.value_type) e

-- the same of an answer
pub answer_is : {E : Type 0} (a : TypedRows) (r : Result Buffer E) → IfOk r (λ b. type_of b ≡ a.value_type) → IfOk r (λ b. rows_of b ≡ a.rows) → IfOk r (λ b. values_of b ≡ a)
answer_is a (Ok b) h e = buffer_is a b h e
answer_is a (Err x) h e = tt

pub logic_answer :
    (o : Operator) (a b : TypedRows) (r : Result Buffer PlanError) → IfOk r (λ c. type_of c ≡ a.value_type)
    → GivesOr ShapeMismatch rows_of r (elementwise (logic_row o a.value_type) a.rows b.rows) → GivesOr ShapeMismatch values_of r (logic_rows o a b)
logic_answer o a b (Ok c) h e = logic_gives o a b (values_of c) h e
logic_answer o a b (Err x) h e = refused x (logic_none o a b) e
