-- One of two rows: the first value, the least, or the greatest.
use Rattle.std.specs.Prelude.{Bool, false, not, ◌&&◌, ◌||◌, is_some}
use Rattle.px_extremes.specs.Choices.{better, is_less, is_greater}
use Rattle.px_semantics.specs.Logic.{is_true}
use Rattle.px_semantics.specs.Rows.{Row}
use Rattle.px_horizontals.specs.declared.choices.Choice.{Choice}
use Rattle.px_horizontals.specs.declared.choices.Choice.TheVariants as choice

-- whether the second of two rows is taken where the first is a value
abbrev pub beats : Choice → Row → Row → Bool
beats choice.First second first = false
beats choice.Least second first = is_less second first
beats choice.Greatest second first = is_greater second first

-- the row that is taken; the other where one is null
abbrev pub chosen : Choice → Row → Row → Row
chosen c x y = better (beats c) x y

-- whether the row that is taken of two Booleans is true, where it is a value
abbrev pub flag_of : Choice → Row → Row → Bool
flag_of choice.First x y = is_true x || (not (is_some x) && is_true y)
flag_of choice.Least x y = (is_true x || not (is_some x)) && (is_true y || not (is_some y))
flag_of choice.Greatest x y = is_true x || is_true y
