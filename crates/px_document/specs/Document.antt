-- The document that a value stands for: {"columns": list of columns, "exprs": list of expressions}.
use Rattle.std.specs.Prelude.{ℕ, List, codes, if◌then◌else◌, Option, Some, None}
use Rattle.std.specs.Result.{result_ok}
use Rattle.std.specs.Str.{is_utf8}
use Rattle.serde_json.specs.Data.{Data, Items}
use Rattle.serde_json.specs.Read.{read}
use Rattle.px_semantics.specs.Frames.{frame_of}
use Rattle.px_semantics.specs.Rows.{Contents}
use Rattle.px_json.specs.Column.{column_in}
use Rattle.px_json.specs.JsonAccess.{◌>>=◌, two_lists, every}
use Rattle.px_forms.specs.Form.{exprs_of}
use Rattle.px_document.specs.declared.document.Document.{Document}

-- columns with distinct names and one height
abbrev pub frame_in : Items → Option (List Contents)
frame_in items = do
  columns ← every column_in items
  result_ok (frame_of columns)

-- an object with exactly the two keys, in any order
abbrev pub document_of_data : Data → Option Document
document_of_data d = do
  lists ← two_lists (codes "columns") (codes "exprs") d
  frame ← frame_in lists.0
  exprs ← exprs_of lists.1
  Some (record { frame = frame; exprs = record { entries = exprs } })

-- the value that the bytes are, where they are UTF-8 and JSON
abbrev pub value_of_bytes : List ℕ → Option Data
value_of_bytes bytes = if is_utf8 bytes then read bytes else None

-- the document that the bytes are
abbrev pub document_of_bytes : List ℕ → Option Document
document_of_bytes bytes = do
  d ← value_of_bytes bytes
  document_of_data d
