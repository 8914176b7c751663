-- The rows of a buffer with their type.
use Rattle.px_semantics.specs.Rows.{TypedRows}
use Rattle.px_column.specs.ColumnOf.{type_of, rows_of}
use Rattle.px_column.specs.declared.buffer.Buffer.{Buffer}

abbrev pub values_of : Buffer → TypedRows
values_of buffer = record { value_type = type_of buffer; rows = rows_of buffer }
