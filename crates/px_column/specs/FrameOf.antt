-- The schema of a frame.
use Rattle.px_types.specs.declared.dtype.Field.{Field}
use Rattle.px_types.specs.ValueTypes.{dtype_of}
use Rattle.px_semantics.specs.Rows.{Contents}

-- the name and the type of a column
abbrev pub field_of : Contents → Field
field_of c = record { name = c.name; dtype = dtype_of c.values.value_type }
