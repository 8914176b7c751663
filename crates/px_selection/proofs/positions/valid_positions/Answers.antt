use Rattle.std.proofs.Common.{◌∙◌, refl, ap, length, List, Bool}
use Rattle.std.proofs.lemmas.Result.{IfOk-weaker}
use Rattle.px_column.specs.ColumnOf.{rows_of}
use Rattle.px_selection.specs.Positions.{set_positions}
use Rattle.px_selection.proofs.Taken.{no_positions}
use Rattle.px_selection.proofs.positions.valid_positions.Goals as goal

pub returns-in-Some-clause-positions : goal.returns-in-Some-clause-positions
returns-in-Some-clause-positions c = IfOk-weaker c.set_positions.result _ _ (λ v e. e ∙ ap (λ (l : List Bool). set_positions l) c.in-Some.ensures.bits) c.set_positions.ensures.positions

pub returns-in-None-clause-positions : goal.returns-in-None-clause-positions
returns-in-None-clause-positions c =
    let rows = rows_of c.args.a.now in
    c.new.ensures.items ∙ no_positions (length rows) rows (c.in-None.ensures.nulls refl)
