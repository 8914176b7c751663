-- Aggregates: what is made of all rows of a column, as one row.
use Rattle.std.specs.Prelude.{Bool, true, false, not, ◌&&◌, ◌-◌, cond, ℕ, ℤ, pos, ◌+ℤ◌, ◌*ℤ◌, List, [], ◌∷◌, length, get_or, Option, Some, None, is_some, is_none, if◌then◌else◌}
use Rattle.std.specs.List.{list_any, filter_map, fold, count_by}
use Rattle.px_types.specs.Integers.{into}
use Rattle.px_types.specs.declared.value_type.ValueType.{ValueType}
use Rattle.px_types.specs.declared.value_type.ValueType.TheVariants.{Boolean, UInt8, UInt16, UInt32, UInt64, Int8, Int16, Int64}
use Rattle.px_semantics.specs.Logic.{is_true, is_false}
use Rattle.px_semantics.specs.Rows.{BooleanValue, IntegerValue, Row, TypedRows, null_count}

-- a single row of a type
abbrev pub one_row : ValueType → Row → TypedRows
one_row value_type row = record { value_type = value_type; rows = row ∷ [] }

-- true where a row is true; else null where a row is null, unless nulls are ignored; else false
abbrev pub any_row : Bool → List Row → Row
any_row ignore_nulls rows =
    if list_any is_true rows then Some (BooleanValue true)
    else (if not ignore_nulls && list_any is_none rows then None else Some (BooleanValue false))

-- false where a row is false; else null where a row is null, unless nulls are ignored; else true
abbrev pub all_row : Bool → List Row → Row
all_row ignore_nulls rows =
    if list_any is_false rows then Some (BooleanValue false)
    else (if not ignore_nulls && list_any is_none rows then None else Some (BooleanValue true))

-- the number of rows, with the nulls or without them
abbrev pub count_of : Bool → List Row → ℕ
count_of true rows = length rows
count_of false rows = count_by is_some rows

-- the number of a value: true is 1, false is 0
abbrev pub number_of : Row → Option ℤ
number_of (Some (IntegerValue z)) = Some z
number_of (Some (BooleanValue t)) = Some (cond t (pos 1) (pos 0))
number_of _ = None

-- the numbers of the rows that are not null
abbrev pub numbers_of : List Row → List ℤ
numbers_of rows = filter_map number_of rows

-- the exact sum and the exact product of integers
abbrev pub sum_of : List ℤ → ℤ
sum_of numbers = fold (λ x y. x +ℤ y) (pos 0) numbers

abbrev pub product_of : List ℤ → ℤ
product_of numbers = fold (λ x y. x *ℤ y) (pos 1) numbers

-- the type of a sum: integers of 8 and 16 bits are summed up in 64 bits
abbrev pub sum_type : ValueType → ValueType
sum_type Boolean = UInt32
sum_type Int8 = Int64
sum_type Int16 = Int64
sum_type UInt8 = Int64
sum_type UInt16 = Int64
sum_type value_type = value_type

abbrev pub product_type : ValueType → ValueType
product_type UInt64 = UInt64
product_type _ = Int64

-- the sum of the values, taken into the type of the sum
abbrev pub sum_row : ValueType → List Row → Row
sum_row value_type rows = Some (IntegerValue (into (sum_type value_type) (sum_of (numbers_of rows))))

abbrev pub product_row : ValueType → List Row → Row
product_row value_type rows = Some (IntegerValue (into (product_type value_type) (product_of (numbers_of rows))))

-- the first row, and the last; null where there is none
abbrev pub first_row : List Row → Row
first_row rows = get_or rows 0 None

abbrev pub last_row : List Row → Row
last_row rows = get_or rows (length rows - 1) None

-- the same of columns
abbrev pub any_of : Bool → TypedRows → TypedRows
any_of ignore_nulls a = one_row Boolean (any_row ignore_nulls a.rows)

abbrev pub all_of : Bool → TypedRows → TypedRows
all_of ignore_nulls a = one_row Boolean (all_row ignore_nulls a.rows)

abbrev pub null_count_of : TypedRows → TypedRows
null_count_of a = one_row UInt32 (Some (IntegerValue (pos (null_count a.rows))))

abbrev pub row_count_of : Bool → TypedRows → TypedRows
row_count_of include_nulls a = one_row UInt32 (Some (IntegerValue (pos (count_of include_nulls a.rows))))

abbrev pub total_of : TypedRows → TypedRows
total_of a = one_row (sum_type a.value_type) (sum_row a.value_type a.rows)

abbrev pub whole_product_of : TypedRows → TypedRows
whole_product_of a = one_row (product_type a.value_type) (product_row a.value_type a.rows)

abbrev pub first_of : TypedRows → TypedRows
first_of a = one_row a.value_type (first_row a.rows)

abbrev pub last_of : TypedRows → TypedRows
last_of a = one_row a.value_type (last_row a.rows)
