use Rattle.std.proofs.Common.{◌≡◌, ◌∷◌, length, map, take, drop}
use Rattle.px_semantics.specs.Rows.{broadcast_lengths}
use Rattle.px_horizontals.specs.Inputs.{values_of_buffers, rows_of_buffers, AreTyped}
use Rattle.px_horizontals.proofs.folds.joined_length.Given as goal

-- the length so far, with those of the buffers that are left, gives the answer
abbrev pub invariant-loop-input : goal.invariant-loop-input
invariant-loop-input l = record {
  left : broadcast_lengths (l.len ∷ map length (rows_of_buffers (drop l.input-index l.inputs))) ≡ broadcast_lengths (map length (rows_of_buffers l.inputs));
  typed : AreTyped (values_of_buffers (take l.input-index l.inputs));
}
