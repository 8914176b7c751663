use Rattle.std.proofs.Common.{◌≡◌, ◌<◌, ℕ, get_or, None, false}
use Rattle.px_semantics.specs.Comparisons.{equal, both_pass}
use Rattle.px_semantics.specs.Rows.{boolean_row}
use Rattle.px_extremes.proofs.places.boolean_place.Given as goal

abbrev pub invariant-loop-i : goal.invariant-loop-i
invariant-loop-i l = (k : ℕ) → k < l.i → both_pass equal (get_or l.rows k None) (boolean_row l.value) ≡ false
