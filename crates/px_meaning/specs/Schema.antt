-- Schemas and frames.
use Rattle.std.specs.Prelude.{◌≡◌, ℕ, List, map, Option, option_map}
use Rattle.px_types.specs.declared.dtype.Field.{Field}
use Rattle.px_types.specs.ValueTypes.{dtype_of}
use Rattle.px_semantics.specs.Rows.{TypedRows, Contents}
use Rattle.px_semantics.specs.Frames.{column_named, IsFrame}

-- the names of columns with their types, in order
abbrev pub Schema : Type 0
Schema = List Field

-- the schema of a frame
abbrev pub schema_of : List Contents → Schema
schema_of frame = map (λ (c : Contents). record { name = c.name; dtype = dtype_of c.values.value_type }) frame

-- the frame has columns whose names, order and types are those of the schema
pub record Fits (columns : List Contents) (schema : Schema) : Type 0 where
  pub frame : IsFrame columns
  pub same : schema_of columns ≡ schema

-- the values of the column of this name
abbrev pub column_at : List Contents → List ℕ → Option TypedRows
column_at frame name = option_map (λ (c : Contents). c.values) (column_named frame name)
