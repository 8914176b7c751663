use Rattle.std.proofs.Common.{◌∙◌, not}
use Rattle.std.proofs.lemmas.Result.{IfOk-weaker}
use Rattle.px_semantics.specs.Comparisons.{less}
use Rattle.px_column.specs.ColumnOf.{rows_of}
use Rattle.px_kernels.proofs.TestRows.{flip_tests}
use Rattle.px_kernels.proofs.comparison.elementwise_values.Goals as goal

pub returns-in-LtEq : goal.returns-in-LtEq
returns-in-LtEq c = rw c.in-LtEq.is (IfOk-weaker c.not_less_rows.result _ _ (λ r e. e ∙ flip_tests (λ x y. not (less x y)) (rows_of c.args.a.now) (rows_of c.args.b.now)) c.not_less_rows.ensures)

pub returns-in-Gt : goal.returns-in-Gt
returns-in-Gt c = rw c.in-Gt.is (IfOk-weaker c.less_rows-in-Gt.result _ _ (λ r e. e ∙ flip_tests less (rows_of c.args.a.now) (rows_of c.args.b.now)) c.less_rows-in-Gt.ensures)
