-- Laws of rows that are selected.
use Rattle.std.specs.Prelude.{◌≡◌, ℕ, ◌+◌, pos, [], ◌∷◌, length, Some, Ok}
use Rattle.px_semantics.specs.Logic.{value_row, tested_rows}
use Rattle.px_semantics.specs.Rows.{IntegerValue, TypedRows, null_count}
use Rattle.px_semantics.specs.Filters.{drop_null_rows, filter_rows}
use Rattle.px_semantics.specs.Slices.{reverse_rows, append_rows, slice_rows}
use Rattle.px_types.specs.declared.value_type.ValueType.TheVariants.{UInt32}

-- the nulls and the rows without nulls are all rows
abbrev pub NullsAddUp : Type 0
NullsAddUp = (a : TypedRows) → null_count a.rows + length (drop_null_rows a).rows ≡ length a.rows

-- to keep the rows that are not null is to drop the nulls
abbrev pub NotNullDropsNulls : Type 0
NotNullDropsNulls = (a : TypedRows) → filter_rows a (tested_rows value_row a) ≡ Some (drop_null_rows a)

-- in reverse twice is as before
abbrev pub ReverseUndoesReverse : Type 0
ReverseUndoesReverse = (a : TypedRows) → reverse_rows (reverse_rows a) ≡ a

-- one row, which is a number
abbrev pub number_rows : ℕ → TypedRows
number_rows n = record { value_type = UInt32; rows = Some (IntegerValue (pos n)) ∷ [] }

-- from two columns that were appended, slices by their lengths give each of them back
abbrev pub AppendKeepsItsParts : Type 0
AppendKeepsItsParts = (a b both : TypedRows) → a.value_type ≡ b.value_type → append_rows a b ≡ Some both
    → (slice_rows both (number_rows 0) (number_rows (length a.rows)) ≡ Ok a) × (slice_rows both (number_rows (length a.rows)) (number_rows (length b.rows)) ≡ Ok b)
