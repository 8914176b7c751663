use Rattle.std.proofs.Common.{◌≡◌, drop}
use Rattle.serde_json.specs.View.{items_view}
use Rattle.px_json.specs.JsonAccess.{every}
use Rattle.px_json.specs.Column.{column_in}
use Rattle.px_json.proofs.Rows.{with_front}
use Rattle.px_json.proofs.read.columns_of_values.Given as goal

abbrev pub invariant-loop-value : goal.invariant-loop-value
invariant-loop-value l =
    every column_in (items_view l.values) ≡ with_front l.columns.entries (every column_in (items_view (drop l.value-index l.values)))
