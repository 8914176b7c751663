-- Rows under names.
use Rattle.std.specs.Prelude.{◌≡◌, ◌⊎◌, ℕ, length}
use Rattle.px_semantics.specs.Rows.{Contents}
use Rattle.px_meaning.specs.Mean.{named}
use Rattle.px_eval.specs.declared.answers.Answer.{Answer}
use Rattle.px_eval.specs.Table.{values_of}

-- the column of these rows under this name
abbrev pub column_of : Answer → Contents
column_of a = named a.name (values_of a.rows)

-- the column has one row, or so many
abbrev pub FitsLength : ℕ → Contents → Type 0
FitsLength n c = (length c.values.rows ≡ 1) ⊎ (length c.values.rows ≡ n)
