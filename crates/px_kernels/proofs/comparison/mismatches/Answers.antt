use Rattle.std.proofs.Common.{◌∙◌}
use Rattle.std.proofs.lemmas.Result.{IfOk-weaker}
use Rattle.px_column.specs.ColumnOf.{rows_of}
use Rattle.px_kernels.proofs.TestRows.{not_matches}
use Rattle.px_kernels.proofs.comparison.mismatches.Goals as goal

pub returns : goal.returns
returns c = IfOk-weaker c.not.result _ _ (λ r e. e ∙ rw c.in_ok-same.ensures (not_matches (rows_of c.args.a.now) (rows_of c.args.b.now))) c.not.ensures
