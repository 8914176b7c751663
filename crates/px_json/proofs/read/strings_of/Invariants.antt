use Rattle.std.proofs.Common.{◌≡◌, length, drop}
use Rattle.serde_json.specs.View.{items_view}
use Rattle.px_json.specs.JsonAccess.{every}
use Rattle.px_json.specs.Column.{cell, string_in}
use Rattle.px_json.proofs.Rows.{with_front}
use Rattle.px_json.proofs.read.strings_of.Given as goal

abbrev pub invariant-loop-item : goal.invariant-loop-item
invariant-loop-item l = record {
  read : every (cell string_in) (items_view l.items) ≡ with_front l.rows (every (cell string_in) (items_view (drop l.item-index l.items)));
  long : length l.rows ≡ l.item-index;
}
