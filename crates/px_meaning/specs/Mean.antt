-- What a tree means on a frame: rows with their type, or nothing, and a name. The rows of a node are a
-- function of the node and of its inputs' rows alone, whatever their names.
use Rattle.std.specs.Prelude.{◌≡◌, ℕ, List, [], ◌∷◌, map, length, Option, Some, None, option_map, option_and_then}
use Rattle.px_functions.specs.declared.evaluated.EvaluatedBoolean.{EvaluatedBoolean}
use Rattle.px_functions.specs.declared.evaluated.EvaluatedBoolean.TheVariants.{IsNull, IsNotNull, Not}
use Rattle.px_functions.specs.declared.evaluated.EvaluatedFunction.{EvaluatedFunction}
use Rattle.px_functions.specs.declared.evaluated.EvaluatedFunction.TheVariants as function
use Rattle.px_types.specs.declared.operator.Operator.{Operator}
use Rattle.px_semantics.specs.Arithmetic.{arith_rows, negate_rows}
use Rattle.px_semantics.specs.Casts.{cast_to}
use Rattle.px_semantics.specs.Selections.{select_rows}
use Rattle.px_semantics.specs.Comparisons.{compare_rows}
use Rattle.px_semantics.specs.Fused.{fused_rows}
use Rattle.px_semantics.specs.Logic.{logic_rows, inverse_rows, tested_rows, null_row, value_row}
use Rattle.px_semantics.specs.Rows.{TypedRows, Contents, broadcast_lengths, stretch}
use Rattle.px_expr.specs.declared.context.Context.{Context}
use Rattle.px_expr.specs.declared.context.Context.TheVariants.{Select, Filter}
use Rattle.px_expr.specs.Kernel.{Kernel}
use Rattle.px_expr.specs.Tree.{Node, Alias, Column, Literal, Binary, Cast, Ternary, Function, Tree, fold_tree}
use Rattle.px_meaning.specs.Literals.{literal_rows}
use Rattle.px_meaning.specs.Names.{name}
use Rattle.px_meaning.specs.Schema.{column_at}
use Rattle.px_meaning.specs.Signatures.{Group, Arithmetic, Comparison, Bitwise, Logical, Fractional, group_of}

-- row by row what an operator gives
abbrev pub group_rows : Group → Operator → TypedRows → TypedRows → Option TypedRows
group_rows Arithmetic o a b = arith_rows o a b
group_rows Comparison o a b = compare_rows o a b
group_rows Bitwise o a b = logic_rows o a b
group_rows Logical o a b = logic_rows o a b
group_rows Fractional o a b = None

abbrev pub binary_rows : Operator → List TypedRows → Option TypedRows
binary_rows o (a ∷ b ∷ []) = group_rows (group_of o) o a b
binary_rows o _ = None

abbrev pub boolean_rows : EvaluatedBoolean → TypedRows → TypedRows
boolean_rows IsNull a = tested_rows null_row a
boolean_rows IsNotNull a = tested_rows value_row a
boolean_rows Not a = inverse_rows a

-- f of one column, and of three
abbrev pub of_one : (TypedRows → Option TypedRows) → List TypedRows → Option TypedRows
of_one f (a ∷ []) = f a
of_one f _ = None

abbrev pub of_three : (TypedRows → TypedRows → TypedRows → Option TypedRows) → List TypedRows → Option TypedRows
of_three f (a ∷ b ∷ c ∷ []) = f a b c
of_three f _ = None

abbrev pub function_rows : EvaluatedFunction → List TypedRows → Option TypedRows
function_rows (function.Boolean f) inputs = of_one (λ a. Some (boolean_rows f a)) inputs
function_rows function.Negate inputs = of_one (λ a. Some (negate_rows a)) inputs
function_rows (function.Fused f) inputs = of_three (fused_rows f) inputs

-- the rows of a node over columns
abbrev pub own_rows : List Kernel → List Contents → Node → List TypedRows → Option TypedRows
own_rows kernels frame (Alias n) inputs = of_one Some inputs
own_rows kernels frame (Column n) inputs = column_at frame n
own_rows kernels frame (Literal v) inputs = literal_rows v
own_rows kernels frame (Binary o) inputs = binary_rows o inputs
own_rows kernels frame (Cast dtype options) inputs = of_one (cast_to options dtype) inputs
own_rows kernels frame Ternary inputs = of_three select_rows inputs
own_rows kernels frame (Function f) inputs = function_rows f inputs
own_rows kernels frame _ inputs = None

-- all values, or nothing where one is nothing
abbrev pub all_of : {A : Type 0} → List (Option A) → Option (List A)
all_of [] = Some []
all_of (o ∷ os) = option_and_then (λ a. option_map (λ as'. a ∷ as') (all_of os)) o

-- the rows of a node over inputs that may mean nothing
abbrev pub node_rows : List Kernel → List Contents → Node → List (Option TypedRows) → Option TypedRows
node_rows kernels frame n inputs = option_and_then (own_rows kernels frame n) (all_of inputs)

-- the rows that a tree means on a frame
abbrev pub rows : List Kernel → List Contents → Tree → Option TypedRows
rows kernels frame = fold_tree (node_rows kernels frame)

abbrev pub named : List ℕ → TypedRows → Contents
named n values = record { name = n; values = values }

-- the column that a tree means on a frame
abbrev pub mean : List Kernel → List Contents → Tree → Option Contents
mean kernels frame t = option_map (named (name t)) (rows kernels frame t)

-- both mean nothing, or both mean columns of the same values, and in a select of the same name
abbrev pub Same : Context → Option Contents → Option Contents → Type 0
Same Select (Some a) (Some b) = a ≡ b
Same Filter (Some a) (Some b) = a.values ≡ b.values
Same c None None = Unit {0}
Same c _ _ = ⊥

-- a mask has no name
abbrev pub answer_name : Context → List ℕ → List ℕ
answer_name Select n = n
answer_name Filter n = []

-- the column as it is answered, with its rows broadcast
abbrev pub as_answer : Context → ℕ → Contents → Contents
as_answer context n c = named (answer_name context c.name) (record { value_type = c.values.value_type; rows = stretch n c.values.rows })

abbrev pub lined_up : Context → List Contents → Option (List Contents)
lined_up context columns = option_map (λ n. map (as_answer context n) columns) (broadcast_lengths (map (λ (c : Contents). length c.values.rows) columns))

-- the columns that a list of trees means, each broadcast to the common length of all; nothing where a tree
-- means nothing or the lengths do not broadcast
abbrev pub mean_list : List Kernel → List Contents → Context → List Tree → Option (List Contents)
mean_list kernels frame context ts = option_and_then (lined_up context) (all_of (map (mean kernels frame) ts))
