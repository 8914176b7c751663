use Rattle.std.proofs.Common.{◌≡◌, map, replicate, None}
use Rattle.serde_json.specs.View.{view}
use Rattle.px_json.specs.Column.{row_data}
use Rattle.px_json.proofs.write.null_values.Given as goal

abbrev pub invariant-loop : goal.invariant-loop
invariant-loop l = map view l.values.items ≡ map row_data (replicate l.counter None)
