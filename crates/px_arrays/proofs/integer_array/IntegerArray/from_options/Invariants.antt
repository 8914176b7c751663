use Rattle.std.proofs.Common.{◌≡◌, map, take}
use Rattle.px_semantics.specs.Rows.{integer_row, AllInRange}
use Rattle.px_arrays.proofs.integer_array.IntegerArray.from_options.Given as goal

abbrev pub invariant-loop-value : goal.invariant-loop-value
invariant-loop-value g l = record {
  entries : l.rows ≡ map integer_row (take l.value-index l.values);
  fit : AllInRange g.T.Integer.value_type (take l.value-index l.values);
}
