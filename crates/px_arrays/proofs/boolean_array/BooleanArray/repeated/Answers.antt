use Rattle.std.proofs.Common.{◌∙◌, ap, replicate}
use Rattle.std.proofs.lemmas.Result.{IfOk-weaker}
use Rattle.px_arrays.proofs.boolean_array.BooleanArray.repeated.Goals as goal

pub returns : goal.returns
returns c = IfOk-weaker c.filled.result _ _ (λ r e. e ∙ ap (replicate c.args.len) c.get.ensures) c.filled.ensures
