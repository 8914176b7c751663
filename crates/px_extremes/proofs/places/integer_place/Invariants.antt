use Rattle.std.proofs.Common.{◌≡◌, ◌<◌, ℕ, get_or, None, false, option_map}
use Rattle.px_semantics.specs.Comparisons.{equal, both_pass}
use Rattle.px_semantics.specs.Rows.{integer_row}
use Rattle.px_extremes.proofs.places.integer_place.Given as goal

abbrev pub invariant-loop-i : goal.invariant-loop-i
invariant-loop-i g l = (k : ℕ) → k < l.i → both_pass equal (get_or l.rows k None) (integer_row (option_map g.T.Integer.integer l.value)) ≡ false
