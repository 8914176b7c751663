use Rattle.std.proofs.Common.{◌≡◌, map, take}
use Rattle.px_semantics.specs.Rows.{string_row}
use Rattle.px_arrays.proofs.string_array.StringArray.from_options.Given as goal

abbrev pub invariant-loop-text : goal.invariant-loop-text
invariant-loop-text l = l.rows ≡ map string_row (take l.text-index l.texts)
