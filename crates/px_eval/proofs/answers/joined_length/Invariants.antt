use Rattle.std.proofs.Common.{◌≡◌, map, drop}
use Rattle.std.specs.Prelude.{option_and_then}
use Rattle.px_semantics.specs.Frames.{heights}
use Rattle.px_semantics.specs.Rows.{broadcast_length}
use Rattle.px_semantics.specs.Rows.{broadcast_lengths}
use Rattle.px_eval.specs.Answers.{column_of}
use Rattle.px_eval.proofs.answers.joined_length.Given as goal

-- the length so far joins with those that are left to what all join to
abbrev pub invariant-loop-answer : goal.invariant-loop-answer
invariant-loop-answer l = option_and_then (broadcast_length l.broadcast_length) (broadcast_lengths (heights (map column_of (drop l.answer-index l.answers)))) ≡ broadcast_lengths (heights (map column_of l.answers))
