use Rattle.std.proofs.Common.{◌≡◌, take, None}
use Rattle.std.specs.List.{fold}
use Rattle.std.specs.Option.{option_copied}
use Rattle.px_semantics.specs.Rows.{string_row}
use Rattle.px_extremes.specs.Choices.{greater}
use Rattle.px_extremes.proofs.strings.greatest_string.Given as goal

abbrev pub invariant-loop-i : goal.invariant-loop-i
invariant-loop-i l = string_row (option_copied l.greatest) ≡ fold greater None (take l.i l.rows)
