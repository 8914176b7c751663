use Rattle.std.proofs.Common.{◌≡◌, length, drop}
use Rattle.std.specs.Simd.Lanes.{zip2}
use Rattle.serde_json.specs.View.{items_view}
use Rattle.px_semantics.specs.Rows.{boolean_entry}
use Rattle.px_json.specs.JsonAccess.{every}
use Rattle.px_json.specs.Column.{cell, boolean_in}
use Rattle.px_json.proofs.Rows.{with_front}
use Rattle.px_json.proofs.read.booleans_of.Given as goal

abbrev pub invariant-loop-item : goal.invariant-loop-item
invariant-loop-item l = record {
  read : every (cell boolean_in) (items_view l.items) ≡ with_front (zip2 boolean_entry l.flags.items l.valid.items) (every (cell boolean_in) (items_view (drop l.item-index l.items)));
  flags : length l.flags.items ≡ l.item-index;
  valid : length l.valid.items ≡ l.item-index;
}
