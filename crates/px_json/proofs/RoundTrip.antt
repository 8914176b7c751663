-- What a column is written as reads as the same column, and has no float.
use Rattle.std.proofs.Common.{◌≡◌, suc, ◌<◌, ◌^◌, ℤ, pos, negsuc, List, [], ◌∷◌, map, length, true, false, Some, None, option_map, IfOk, Result, Ok, Err, Vec, Global, refl, ap, ◌∙◌, nat_lt}
use Rattle.std.specs.Simd.Lanes.{Each1}
use Rattle.std.proofs.lemmas.Bool.{lt-ltb}
use Rattle.std.proofs.lemmas.List.{length-map}
use Rattle.serde_json.specs.Data.{Data, number}
use Rattle.serde_json.specs.Events.{items_len}
use Rattle.serde_json.specs.Find.{as_integer, is_float, of_integer}
use Rattle.serde_json.specs.View.{view, items_of, items_view}
use Rattle.serde_json.specs.Written.{has_float, items_have_float}
use Rattle.serde_json.specs.declared.value.Value.{Value}
use Rattle.px_base.specs.declared.error.PlanError.{PlanError}
use Rattle.px_semantics.specs.Columns.{IsColumn}
use Rattle.px_types.specs.Integers.{InRange}
use Rattle.px_semantics.specs.Rows.{BooleanValue, StringValue, IntegerValue, Row, IsRowOf, TypedRows, Contents}
use Rattle.px_types.specs.declared.value_type.ValueType.{ValueType}
use Rattle.px_types.specs.declared.value_type.ValueType.TheVariants as value_type
use Rattle.px_semantics.proofs.CastLemmas.{holds_decides}
use Rattle.px_base.specs.Answer.{GivesSeen}
use Rattle.px_json.specs.JsonAccess.{every}
use Rattle.px_json.specs.Names.{value_type_name, value_type_named}
use Rattle.px_json.specs.Column.{cell, integer_in, value_in, values_in, column_in, row_data, column_data}

pub value_type_named-value_type_name : (k : ValueType) → value_type_named (value_type_name k) ≡ Some k
unfolding value_type_named value_type_name
value_type_named-value_type_name value_type.Null = refl
value_type_named-value_type_name value_type.Boolean = refl
value_type_named-value_type_name value_type.String = refl
value_type_named-value_type_name value_type.UInt8 = refl
value_type_named-value_type_name value_type.UInt16 = refl
value_type_named-value_type_name value_type.UInt32 = refl
value_type_named-value_type_name value_type.UInt64 = refl
value_type_named-value_type_name value_type.Int8 = refl
value_type_named-value_type_name value_type.Int16 = refl
value_type_named-value_type_name value_type.Int32 = refl
value_type_named-value_type_name value_type.Int64 = refl

pub as_integer-of_integer : (z : ℤ) → as_integer (of_integer z) ≡ Some z
as_integer-of_integer (pos n) = refl
as_integer-of_integer (negsuc n) = refl

pub is_float-of_integer : (z : ℤ) → is_float (of_integer z) ≡ false
is_float-of_integer (pos n) = refl
is_float-of_integer (negsuc n) = refl

integer_again : (k : ValueType) (z : ℤ) → InRange k z → option_map Some (integer_in k (number (of_integer z))) ≡ Some (Some (IntegerValue z))
integer_again k z h = rw (as_integer-of_integer z, (holds_decides k z).1 h) refl

row_again : (k : ValueType) (r : Row) → IsRowOf k r → cell (value_in k) (row_data r) ≡ Some r
row_again k None h = refl
row_again value_type.Boolean (Some (BooleanValue t)) h = refl
row_again value_type.String (Some (StringValue t)) h = refl
row_again value_type.UInt8 (Some (IntegerValue z)) h = integer_again value_type.UInt8 z h
row_again value_type.UInt16 (Some (IntegerValue z)) h = integer_again value_type.UInt16 z h
row_again value_type.UInt32 (Some (IntegerValue z)) h = integer_again value_type.UInt32 z h
row_again value_type.UInt64 (Some (IntegerValue z)) h = integer_again value_type.UInt64 z h
row_again value_type.Int8 (Some (IntegerValue z)) h = integer_again value_type.Int8 z h
row_again value_type.Int16 (Some (IntegerValue z)) h = integer_again value_type.Int16 z h
row_again value_type.Int32 (Some (IntegerValue z)) h = integer_again value_type.Int32 z h
row_again value_type.Int64 (Some (IntegerValue z)) h = integer_again value_type.Int64 z h
row_again _ (Some (BooleanValue t)) h = absurd h
row_again _ (Some (StringValue t)) h = absurd h
row_again _ (Some (IntegerValue z)) h = absurd h

rows_again : (k : ValueType) (rows : List Row) → Each1 (IsRowOf k) rows → every (cell (value_in k)) (items_of (map row_data rows)) ≡ Some rows
rows_again k [] h = refl
rows_again k (r ∷ rows) h = rw (row_again k r h.0, rows_again k rows h.1) refl

items_len-items_of : (ds : List Data) → items_len (items_of ds) ≡ length ds
items_len-items_of [] = refl
items_len-items_of (d ∷ ds) = ap suc (items_len-items_of ds)

is_short : (rows : List Row) → length rows < 2 ^ 32 → nat_lt (items_len (items_of (map row_data rows))) (2 ^ 32) ≡ true
is_short rows h = ap (λ n. nat_lt n (2 ^ 32)) (items_len-items_of (map row_data rows) ∙ length-map rows row_data) ∙ lt-ltb (length rows) (2 ^ 32) h

values_again : (v : TypedRows) → IsColumn v → values_in v.value_type (items_of (map row_data v.rows)) ≡ Some v
values_again v h = rw (is_short v.rows h.below_limit, rows_again v.value_type v.rows h.typed) refl

-- what a column is written as reads as the same column
pub column_again : (c : Contents) → IsColumn c.values → column_in (column_data c) ≡ Some c
column_again c h = rw (value_type_named-value_type_name c.values.value_type, values_again c.values h) refl

plain_rows : (rows : List Row) → items_have_float (items_of (map row_data rows)) ≡ false
plain_rows [] = refl
plain_rows (None ∷ rows) = plain_rows rows
plain_rows (Some (BooleanValue t) ∷ rows) = plain_rows rows
plain_rows (Some (StringValue text) ∷ rows) = plain_rows rows
plain_rows (Some (IntegerValue z) ∷ rows) = rw (is_float-of_integer z) (plain_rows rows)

-- it has no float
pub plain_column : (c : Contents) → has_float (column_data c) ≡ false
plain_column c = rw (plain_rows c.values.rows) refl

plain_columns : (cs : List Contents) → items_have_float (items_of (map column_data cs)) ≡ false
plain_columns [] = refl
plain_columns (c ∷ cs) = rw (plain_column c) (plain_columns cs)

-- the same of what a call wrote
pub written_again : (c : Contents) (r : Result Value PlanError) → IsColumn c.values → GivesSeen view r (column_data c) → IfOk r (λ v. column_in (view v) ≡ Some c)
written_again c (Ok v) h is = rw is (column_again c h)
written_again c (Err e) h is = tt

pub written_plain : (c : Contents) (r : Result Value PlanError) → GivesSeen view r (column_data c) → IfOk r (λ v. has_float (view v) ≡ false)
written_plain c (Ok v) is = rw is (plain_column c)
written_plain c (Err e) is = tt

pub all_written_plain : (cs : List Contents) (r : Result (Vec Value Global) PlanError) → GivesSeen (λ (v : Vec Value Global). map view v.items) r (map column_data cs) → IfOk r (λ (v : Vec Value Global). items_have_float (items_view v.items) ≡ false)
all_written_plain cs (Ok v) is = rw is (plain_columns cs)
all_written_plain cs (Err e) is = tt
