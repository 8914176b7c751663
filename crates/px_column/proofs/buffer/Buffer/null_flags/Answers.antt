use Rattle.std.proofs.Common.{◌∙◌, ap, refl, map, not, true, length, replicate}
use Rattle.std.proofs.lemmas.Result.{IfOk-weaker}
use Rattle.px_arrays.specs.BitmapOf.{non_null}
use Rattle.px_column.specs.ColumnOf.{rows_of}
use Rattle.px_column.proofs.KernelRows.{missing_flags, nulls_missing}
use Rattle.px_column.proofs.buffer.Buffer.null_flags.Goals as goal

pub returns-in-Some : goal.returns-in-Some
returns-in-Some c =
    let rows = rows_of c.args.self.now in
    IfOk-weaker c.complement_of.result _ _ (λ r e. e ∙ ap (λ l. map non_null (map not l)) c.in-Some.ensures.bits ∙ missing_flags rows) c.complement_of.ensures

pub returns-in_ok-filled-in-None : goal.returns-in_ok-filled-in-None
returns-in_ok-filled-in-None c =
    let rows = rows_of c.args.self.now in
    IfOk-weaker c.non_null.result _ _
    (λ r e. e ∙ ap (map non_null) (c.in_ok-filled-in-None.ensures ∙ ap (λ n. replicate n true) c.len.ensures.rows) ∙ nulls_missing (length rows) rows (c.in-None.ensures.nulls refl))
    c.non_null.ensures
