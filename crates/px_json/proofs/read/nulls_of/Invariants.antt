use Rattle.std.proofs.Common.{◌≡◌, drop, replicate, None}
use Rattle.serde_json.specs.View.{items_view}
use Rattle.px_types.specs.declared.value_type.ValueType.TheVariants as value_type
use Rattle.px_json.specs.JsonAccess.{every}
use Rattle.px_json.specs.Column.{cell, value_in}
use Rattle.px_json.proofs.Rows.{with_front}
use Rattle.px_json.proofs.read.nulls_of.Given as goal

abbrev pub invariant-loop-item : goal.invariant-loop-item
invariant-loop-item l =
    every (cell (value_in value_type.Null)) (items_view l.items) ≡ with_front (replicate l.item-index None) (every (cell (value_in value_type.Null)) (items_view (drop l.item-index l.items)))
