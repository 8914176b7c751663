use Rattle.std.proofs.Common.{◌≡◌, ◌<◌, ℕ, get_or, None, false}
use Rattle.std.specs.Option.{option_copied}
use Rattle.px_semantics.specs.Comparisons.{equal, both_pass}
use Rattle.px_semantics.specs.Rows.{string_row}
use Rattle.px_extremes.proofs.places.string_place.Given as goal

abbrev pub invariant-loop-i : goal.invariant-loop-i
invariant-loop-i l = (k : ℕ) → k < l.i → both_pass equal (get_or l.rows k None) (string_row (option_copied l.value)) ≡ false
