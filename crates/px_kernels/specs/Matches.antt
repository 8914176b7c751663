-- Rows that match, missing ones too.
use Rattle.std.specs.Prelude.{Some, not}
use Rattle.px_semantics.specs.Comparisons.{match_rows}
use Rattle.px_semantics.specs.Rows.{Row, BooleanValue}

-- whether both rows are null, or both are equal values
abbrev pub match_row : Row → Row → Row
match_row x y = Some (BooleanValue (match_rows x y))

-- the negation
abbrev pub mismatch_row : Row → Row → Row
mismatch_row x y = Some (BooleanValue (not (match_rows x y)))
