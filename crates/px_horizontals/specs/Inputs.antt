-- Any number of columns of one type.
use Rattle.std.specs.Prelude.{◌≡◌, ℕ, List, [], ◌∷◌, map}
use Rattle.std.specs.Borrow.{Bor}
use Rattle.std.specs.Simd.Lanes.{Each1}
use Rattle.px_types.specs.declared.value_type.ValueType.{ValueType}
use Rattle.px_types.specs.declared.value_type.ValueType.TheVariants.{Null}
use Rattle.px_semantics.specs.Rows.{Row, TypedRows, Contents, IsRowOf}
use Rattle.px_column.specs.Buffers.{values_of}
use Rattle.px_column.specs.ColumnOf.{type_of, rows_of}
use Rattle.px_column.specs.declared.buffer.Buffer.{Buffer}

-- the rows of buffers, and of columns
abbrev pub values_of_buffers : List (Bor Buffer) → List TypedRows
values_of_buffers buffers = map (λ b. values_of b.now) buffers

abbrev pub values_of_columns : List Contents → List TypedRows
values_of_columns columns = map (λ (c : Contents). c.values) columns

-- the rows of buffers without their types
abbrev pub rows_of_buffers : List (Bor Buffer) → List (List Row)
rows_of_buffers buffers = map (λ b. rows_of b.now) buffers

-- the type of the first column
abbrev pub first_type : List TypedRows → ValueType
first_type [] = Null
first_type (c ∷ columns) = c.value_type

-- the name of the first column
abbrev pub first_name : List Contents → List ℕ
first_name [] = []
first_name (c ∷ columns) = c.name

-- all columns have the type
abbrev pub HaveType : ValueType → List TypedRows → Type 0
HaveType k columns = Each1 (λ (c : TypedRows). c.value_type ≡ k) columns

-- each row is null or a value of its column's type
abbrev pub AreTyped : List TypedRows → Type 0
AreTyped columns = Each1 (λ (c : TypedRows). Each1 (IsRowOf c.value_type) c.rows) columns

-- the types of the buffers
abbrev pub TypesAre : (ValueType → Type 0) → List (Bor Buffer) → Type 0
TypesAre P buffers = Each1 (λ b. P (type_of b.now)) buffers
