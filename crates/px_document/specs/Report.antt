-- The report of a run, and the line of an error.
use Rattle.std.specs.Prelude.{ℕ, List, [], ◌∷◌, ◌++◌, codes, map, Option, option_map}
use Rattle.serde_json.specs.Data.{Data, number, unsigned, string, array, object, member, no_members}
use Rattle.serde_json.specs.View.{items_of}
use Rattle.serde_json.specs.Written.{compact_text}
use Rattle.px_base.specs.declared.error.PlanError.{PlanError}
use Rattle.px_base.specs.declared.error.PlanError.TheVariants.{OutOfMemory, ColumnNotFound, InvalidOperation, Duplicate, ShapeMismatch, InvalidCast, OutOfBounds, TooLong, KernelFailed}
use Rattle.px_semantics.specs.Rows.{Contents}
use Rattle.px_expr.specs.Tree.{Tree}
use Rattle.px_json.specs.Built.{single_member}
use Rattle.px_json.specs.Column.{column_data}
use Rattle.px_forms.specs.Written.{all_data}

-- {"columns": list, "rewrites": n, "trees": list}
abbrev pub report_data : List Data → ℕ → List Data → Data
report_data columns rewrites trees = object (member (codes "columns") (array (items_of columns)) (member (codes "rewrites") (number (unsigned rewrites))
    (member (codes "trees") (array (items_of trees)) no_members)))

-- the report, if each tree has a form
abbrev pub report : List Contents → List Tree → ℕ → Option Data
report columns trees rewrites = option_map (report_data (map column_data columns) rewrites) (all_data trees)

-- {"error": kind}
abbrev pub plain_error : List ℕ → Data
plain_error value_type = single_member (codes "error") (string value_type)

-- {"error": kind, "name": text}
abbrev pub named_error : List ℕ → List ℕ → Data
named_error value_type name = object (member (codes "error") (string value_type) (member (codes "name") (string name) no_members))

-- an error, with the name that it keeps
abbrev pub error_data : PlanError → Data
error_data OutOfMemory = plain_error (codes "OutOfMemory")
error_data (ColumnNotFound name) = named_error (codes "ColumnNotFound") name
error_data InvalidOperation = plain_error (codes "InvalidOperation")
error_data (Duplicate name) = named_error (codes "Duplicate") name
error_data ShapeMismatch = plain_error (codes "ShapeMismatch")
error_data InvalidCast = plain_error (codes "InvalidCast")
error_data OutOfBounds = plain_error (codes "OutOfBounds")
error_data TooLong = plain_error (codes "TooLong")
error_data KernelFailed = plain_error (codes "KernelFailed")

-- a value as compact text, and a line feed
abbrev pub line : Data → List ℕ
line d = compact_text d ++ 10 ∷ []
