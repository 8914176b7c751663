use Rattle.std.proofs.Common.{◌∙◌}
use Rattle.std.proofs.lemmas.Result.{IfOk-weaker}
use Rattle.px_kernels.proofs.TestRows.{null_entries}
use Rattle.px_kernels.proofs.comparison.null_booleans.Goals as goal

pub returns : goal.returns
returns c = IfOk-weaker c.masked.result _ _ (λ r e. e ∙ rw (c.in_ok-valid.ensures, c.in_ok-flags.ensures) (null_entries c.args.len)) c.masked.ensures
