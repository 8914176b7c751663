use Rattle.std.proofs.Common.{◌∙◌, ap, replicate}
use Rattle.px_arrays.proofs.BooleanRows.{value_repeated}
use Rattle.px_arrays.proofs.boolean_array.BooleanArray.filled.Goals as goal

pub invariant_of-result : goal.invariant_of-result
invariant_of-result c =
    (value_repeated c.args.len c.args.value c.in_ok-truth.truth c.in_ok-valid.valid (c.in_ok-truth.ensures ∙ ap (replicate c.args.len) c.unwrap_or.ensures) (c.in_ok-valid.ensures ∙ ap (replicate c.args.len) c.is_some.ensures)).inv

pub returns : goal.returns
returns c =
    (value_repeated c.args.len c.args.value c.in_ok-truth.truth c.in_ok-valid.valid (c.in_ok-truth.ensures ∙ ap (replicate c.args.len) c.unwrap_or.ensures) (c.in_ok-valid.ensures ∙ ap (replicate c.args.len) c.is_some.ensures)).is
