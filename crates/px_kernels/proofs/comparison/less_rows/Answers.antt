use Rattle.std.proofs.Common.{◌∙◌, ap}
use Rattle.std.proofs.lemmas.Result.{IfOk-weaker}
use Rattle.px_semantics.specs.Comparisons.{less}
use Rattle.px_column.specs.ColumnOf.{rows_of}
use Rattle.px_kernels.proofs.TestRows.{null_rows_tests}
use Rattle.px_kernels.proofs.comparison.less_rows.Goals as goal

pub returns-in-Null-Null : goal.returns-in-Null-Null
returns-in-Null-Null c =
    IfOk-weaker c.null_booleans.result _ _
    (λ r e. e ∙ null_rows_tests less _ _ (rows_of c.args.a.now) (rows_of c.args.b.now) (ap rows_of c.in-Null-Null.is-0) (ap rows_of c.in-Null-Null.is-1) c.requires.same_length)
    c.null_booleans.ensures
