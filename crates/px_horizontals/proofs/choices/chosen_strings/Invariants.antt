use Rattle.std.proofs.Common.{◌≡◌, take, length}
use Rattle.std.specs.Simd.Lanes.{zip2}
use Rattle.px_semantics.specs.Rows.{stretch}
use Rattle.px_horizontals.specs.Choices.{chosen}
use Rattle.px_horizontals.proofs.choices.chosen_strings.Given as goal

abbrev pub invariant-loop-i : goal.invariant-loop-i
invariant-loop-i l = l.rows ≡ take l.i (zip2 (chosen l.choice) l.a (stretch (length l.a) l.b))
