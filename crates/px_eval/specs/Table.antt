-- The table of rows by places.
use Rattle.std.specs.Prelude.{◌≡◌, ℕ, List, Option, None, Result, Ok, Err, get_or}
use Rattle.px_base.specs.declared.error.PlanError.{PlanError}
use Rattle.px_base.specs.declared.error.PlanError.TheVariants.{OutOfMemory}
use Rattle.px_semantics.specs.Rows.{TypedRows}
use Rattle.px_column.specs.Buffers as buffers
use Rattle.px_eval.specs.declared.table.Rows.{Rows}
use Rattle.px_eval.specs.declared.table.Rows.TheVariants as rows

-- rows, whoever has their buffer
abbrev pub values_of : Rows → TypedRows
values_of (rows.Borrowed b) = buffers.values_of b.now
values_of (rows.Shared b) = buffers.values_of b.value

-- these rows, or out of memory
abbrev pub GivesValues : Result Rows PlanError → TypedRows → Type 0
GivesValues (Ok r) values = values_of r ≡ values
GivesValues (Err e) values = e ≡ OutOfMemory

-- what the place holds
abbrev pub rows_at : List (Option TypedRows) → ℕ → Option TypedRows
rows_at table i = get_or table i None
