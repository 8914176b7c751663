-- Kernels: functions of the caller's over columns, known by what they declare and what they answer. They see
-- types and values, and no names.
use Rattle.std.specs.Prelude.{ℕ, ◌≡◌, List, map, Option, Some, option_and_then, slice_get}
use Rattle.std.specs.List.{All}
use Rattle.px_types.specs.declared.dtype.DataType.{DataType}
use Rattle.px_semantics.specs.Columns.{IsColumn}
use Rattle.px_semantics.specs.Rows.{TypedRows}

-- the type that a kernel declares for inputs of these types, and the column that it answers for these inputs
pub record Kernel : Type 0 where
  pub declared : List DataType → Option DataType
  pub answer : List TypedRows → Option TypedRows

-- the kernel that a value of any type stands for
abbrev pub kernel_of : {K : Type 0} → (K → List DataType → Option DataType) → (K → List TypedRows → Option TypedRows) → K → Kernel
kernel_of declared answer k = record { declared = declared k; answer = answer k }

-- the kernels of a list of such values, in order
abbrev pub all_kernels : {K : Type 0} → (K → List DataType → Option DataType) → (K → List TypedRows → Option TypedRows) → List K → List Kernel
all_kernels declared answer ks = map (kernel_of declared answer) ks

-- for inputs that are columns the answer, where there is one, is a column
abbrev pub AnswersColumns : (List TypedRows → Option TypedRows) → Type 0
AnswersColumns answer = (inputs : List TypedRows) (values : TypedRows) → All IsColumn inputs → answer inputs ≡ Some values → IsColumn values

-- what the kernel of this number declares and answers, and none where no kernel has it
abbrev pub declared_at : List Kernel → ℕ → List DataType → Option DataType
declared_at kernels number inputs = option_and_then (λ (k : Kernel). k.declared inputs) (slice_get kernels number)

abbrev pub answer_at : List Kernel → ℕ → List TypedRows → Option TypedRows
answer_at kernels number inputs = option_and_then (λ (k : Kernel). k.answer inputs) (slice_get kernels number)
