-- What the hash of a column reads.
use Rattle.std.specs.Prelude.{◌*◌, ◌/◌, ◌++◌, List, None, min, map, length, get_or}
use Rattle.std.specs.List.{flat_map, range_with_len}
use Rattle.std.specs.Hash as fed
use Rattle.px_types.specs.HashInputs.{dtype_input}
use Rattle.px_semantics.specs.Rows.{Datum, BooleanValue, StringValue, IntegerValue, Row, Contents, null_count}
use Rattle.px_types.specs.ValueTypes.{dtype_of}

-- at most 8 rows, at places that divide the column into parts of one length
abbrev pub sample : List Row → List Row
sample rows = map (λ i. get_or rows (i * length rows / min (length rows) 8) None) (range_with_len 0 (min (length rows) 8))

abbrev pub value_input : Datum → fed.HashWrites
value_input (BooleanValue t) = fed.bool t
value_input (StringValue bytes) = fed.str bytes
value_input (IntegerValue z) = fed.i128 z

-- whether the row has a value, and which
abbrev pub row_input : Row → fed.HashWrites
row_input row = fed.option value_input row

-- the type, the length, the number of nulls, and a few rows
abbrev pub column_input : Contents → fed.HashWrites
column_input c = dtype_input (dtype_of c.values.value_type) ++ fed.u32 (length c.values.rows) ++ fed.u32 (null_count c.values.rows) ++ flat_map row_input (sample c.values.rows)
