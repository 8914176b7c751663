use Rattle.std.proofs.Common.{◌≡◌, ◌*◌, ◌/◌, min, map, length, get_or, None}
use Rattle.std.specs.List.{fold, flat_map, range_with_len}
use Rattle.px_column.specs.HashInput.{row_input}
use Rattle.px_column.proofs.same.hash_sample.Given as goal

-- the rows so far are written
abbrev pub invariant-loop-i : goal.invariant-loop-i
invariant-loop-i g l = l.state ≡ fold g.H.Hasher.write l.fn.state (flat_map row_input (map (λ i. get_or l.column.values.rows (i * length l.column.values.rows / min (length l.column.values.rows) 8) None) (range_with_len 0 l.i)))
