use Rattle.std.proofs.Common.{◌∙◌, ap, refl, false, length, replicate}
use Rattle.std.proofs.lemmas.Result.{IfOk-weaker}
use Rattle.px_column.specs.ColumnOf.{rows_of}
use Rattle.px_column.proofs.KernelRows.{nulls_valid}
use Rattle.px_column.proofs.buffer.Buffer.valid.Goals as goal

pub returns-in-None : goal.returns-in-None
returns-in-None c =
    let rows = rows_of c.args.self.now in
    IfOk-weaker c.filled.result _ _ (λ b e. e ∙ ap (λ n. replicate n false) c.len.ensures.rows ∙ nulls_valid (length rows) rows (c.in-None.ensures.nulls refl)) c.filled.ensures
