-- The answers of kernels, from the folds that they are.
use Rattle.std.proofs.Common.{◌≡◌, ◌<◌, List, [], ◌∷◌, length, get_or, refl, subst, arith, Bor}
use Rattle.std.specs.Prelude.{Result, IfOk}
use Rattle.std.specs.Simd.Lanes.{Each1}
use Rattle.px_base.specs.Answer.{GivesOr}
use Rattle.px_base.specs.declared.error.PlanError.{PlanError}
use Rattle.px_base.specs.declared.error.PlanError.TheVariants.{ShapeMismatch}
use Rattle.px_types.specs.declared.value_type.ValueType.{ValueType}
use Rattle.px_types.specs.declared.value_type.ValueType.TheVariants.{Boolean}
use Rattle.px_semantics.specs.Horizontals.{horizontal_rows}
use Rattle.px_semantics.specs.Rows.{Row, TypedRows, Contents, IsRowOf}
use Rattle.px_column.specs.ColumnOf.{type_of}
use Rattle.px_column.specs.declared.buffer.Buffer.{Buffer}
use Rattle.px_horizontals.specs.Inputs.{values_of_buffers, values_of_columns, first_type, HaveType, AreTyped}
use Rattle.px_horizontals.proofs.HorizontalRows.{law_answer}

pub some_buffers : (buffers : List (Bor Buffer)) → 0 < length buffers → 0 < length (values_of_buffers buffers)
some_buffers [] h = absurd (omega arith)
some_buffers (b ∷ buffers) h = omega arith

pub some_columns : (columns : List Contents) → 0 < length columns → 0 < length (values_of_columns columns)
some_columns [] h = absurd (omega arith)
some_columns (c ∷ columns) h = omega arith

-- where all columns have a type, the first has it
pub have_first : (k : ValueType) (columns : List TypedRows) → 0 < length columns → HaveType k columns → first_type columns ≡ k
have_first k [] some h = absurd (omega arith)
have_first k (c ∷ columns) some h = h.0

-- the same of a fold of Booleans
pub boolean_answer : {A : Type 0} (view : A → TypedRows) (F G : List Row → Row) (law : (x : Row) (xs : List Row) → IsRowOf Boolean x → Each1 (IsRowOf Boolean) xs → F (x ∷ xs) ≡ G (x ∷ xs)) (columns : List TypedRows) → 0 < length columns → HaveType Boolean columns
    → (r : Result A PlanError) → IfOk r (λ _. AreTyped columns) → GivesOr ShapeMismatch view r (horizontal_rows (first_type columns) F columns) → GivesOr ShapeMismatch view r (horizontal_rows Boolean G columns)
boolean_answer view F G law columns some have r typed given =
    law_answer Boolean Boolean F G law view columns some have r typed
    (subst (λ (t : ValueType). GivesOr ShapeMismatch view r (horizontal_rows t F columns)) (have_first Boolean columns some have) given)

-- the type of the first buffer
pub first_is : (buffers : List (Bor Buffer)) (b : Bor Buffer) → 0 < length buffers → type_of (get_or buffers 0 b).now ≡ first_type (values_of_buffers buffers)
first_is [] b h = absurd (omega arith)
first_is (x ∷ xs) b h = refl
