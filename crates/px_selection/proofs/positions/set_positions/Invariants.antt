use Rattle.std.proofs.Common.{◌≡◌, ◌*◌}
use Rattle.std.specs.List.{filter, range_with_len}
use Rattle.px_arrays.specs.BitmapOf.{bit_of}
use Rattle.px_selection.proofs.positions.set_positions.Given as goal

abbrev pub invariant-loop-i : goal.invariant-loop-i
invariant-loop-i l = l.positions.items ≡ filter (bit_of l.words) (range_with_len 0 (l.i * 64))
