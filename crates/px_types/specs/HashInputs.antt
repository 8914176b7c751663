-- What the hash of a type reads.
use Rattle.std.specs.Prelude.{ℕ, List, [], ◌++◌}
use Rattle.std.specs.List.{flat_map}
use Rattle.std.specs.Hash as fed
use Rattle.px_types.specs.declared.dtype.DataType.{DataType, out-DataType, DataType-F}
use Rattle.px_types.specs.declared.dtype.DataType.TheOpen.{Field-F}
use Rattle.px_types.specs.declared.dtype.DataType.TheFolds.{fold-DataType, fold-Field}
use Rattle.px_types.specs.declared.dtype.Field.{Field}
use Rattle.px_types.specs.declared.type_parts.UnknownKind.{UnknownKind}
use Rattle.px_types.specs.declared.type_parts.UnknownKind.TheVariants as unknown

-- the place of a type's variant among the variants
abbrev pub layer_rank : {A B : Type 0} → DataType-F A B → ℕ
layer_rank DataType-F.Null = 0
layer_rank DataType-F.Boolean = 1
layer_rank DataType-F.String = 2
layer_rank DataType-F.Binary = 3
layer_rank DataType-F.UInt8 = 4
layer_rank DataType-F.UInt16 = 5
layer_rank DataType-F.UInt32 = 6
layer_rank DataType-F.UInt64 = 7
layer_rank DataType-F.Int8 = 8
layer_rank DataType-F.Int16 = 9
layer_rank DataType-F.Int32 = 10
layer_rank DataType-F.Int64 = 11
layer_rank DataType-F.Int128 = 12
layer_rank DataType-F.Float32 = 13
layer_rank DataType-F.Float64 = 14
layer_rank DataType-F.Date = 15
layer_rank DataType-F.Time = 16
layer_rank (DataType-F.Datetime _ _) = 17
layer_rank (DataType-F.Duration _) = 18
layer_rank DataType-F.Categorical = 19
layer_rank (DataType-F.List _) = 20
layer_rank (DataType-F.Array _ _) = 21
layer_rank (DataType-F.Struct _) = 22
layer_rank (DataType-F.Unknown _) = 23

abbrev pub rank : DataType → ℕ
rank d = layer_rank (out-DataType d)

-- an integer literal's value
abbrev pub unknown_input : UnknownKind → fed.HashWrites
unknown_input (unknown.Int v) = fed.i128 v
unknown_input _ = []

-- what the variant holds, from what its types give
abbrev pub variant_input : DataType-F fed.HashWrites fed.HashWrites → fed.HashWrites
variant_input (DataType-F.Datetime unit zone) = fed.option fed.str zone
variant_input (DataType-F.List inner) = inner
variant_input (DataType-F.Array inner width) = inner ++ fed.u64 width
variant_input (DataType-F.Struct fields) = flat_map (λ field. field) fields.entries
variant_input (DataType-F.Unknown value_type) = unknown_input value_type
variant_input _ = []

abbrev pub layer_input : DataType-F fed.HashWrites fed.HashWrites → fed.HashWrites
layer_input layer = fed.u8 (layer_rank layer) ++ variant_input layer

abbrev pub layer_field : Field-F fed.HashWrites fed.HashWrites → fed.HashWrites
layer_field field = fed.str field.name ++ field.dtype

abbrev pub dtype_input : DataType → fed.HashWrites
dtype_input = fold-DataType fed.HashWrites fed.HashWrites layer_input layer_field

abbrev pub field_input : Field → fed.HashWrites
field_input = fold-Field fed.HashWrites fed.HashWrites layer_input layer_field

abbrev pub fields_input : List Field → fed.HashWrites
fields_input fields = flat_map field_input fields
