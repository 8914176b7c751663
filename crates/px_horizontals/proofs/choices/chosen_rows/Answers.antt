use Rattle.std.proofs.Common.{◌∙◌, ap, sym, length, None}
use Rattle.std.proofs.lemmas.List.{length-replicate}
use Rattle.px_column.specs.ColumnOf.{rows_of}
use Rattle.px_horizontals.proofs.Chosen.{nulls_chosen}
use Rattle.px_horizontals.proofs.choices.chosen_rows.Goals as goal

pub returns-in-Null-Null-clause-rows : goal.returns-in-Null-Null-clause-rows
returns-in-Null-Null-clause-rows c =
    let p = ap rows_of c.in-Null-Null.is-0 in
    sym p
    ∙ nulls_chosen c.args.choice c.in-Null-Null.len _ (rows_of c.args.a.now) (rows_of c.args.b.now) p (ap rows_of c.in-Null-Null.is-1)
    (ap length p ∙ length-replicate c.in-Null-Null.len None) c.requires.long
