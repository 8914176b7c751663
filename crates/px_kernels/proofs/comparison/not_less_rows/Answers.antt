use Rattle.std.proofs.Common.{◌∙◌}
use Rattle.std.proofs.lemmas.Result.{IfOk-weaker}
use Rattle.px_semantics.specs.Comparisons.{less}
use Rattle.px_column.specs.ColumnOf.{rows_of}
use Rattle.px_kernels.proofs.TestRows.{not_tests}
use Rattle.px_kernels.proofs.comparison.not_less_rows.Goals as goal

pub returns : goal.returns
returns c = IfOk-weaker c.not.result _ _ (λ r e. e ∙ rw c.in_ok-below.ensures (not_tests less (rows_of c.args.a.now) (rows_of c.args.b.now))) c.not.ensures
