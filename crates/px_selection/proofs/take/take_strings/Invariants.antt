use Rattle.std.proofs.Common.{◌≡◌, None, take}
use Rattle.px_selection.specs.Positions.{at_positions}
use Rattle.px_selection.proofs.take.take_strings.Given as goal

abbrev pub invariant-loop-position : goal.invariant-loop-position
invariant-loop-position l = l.rows ≡ at_positions None l.a (take l.position-index l.positions)
