use Rattle.std.proofs.Common.{◌∙◌, ap, replicate, true}
use Rattle.px_arrays.proofs.BooleanRows.{complement_entries}
use Rattle.px_arrays.proofs.boolean_array.BooleanArray.complement_of.Goals as goal

pub invariant_of-result : goal.invariant_of-result
invariant_of-result c =
    let all = c.in_ok-valid.ensures ∙ ap (λ n. replicate n true) c.len.ensures.bits in
    (complement_entries c.args.flags.now c.in_ok-truth.truth c.in_ok-valid.valid all c.in_ok-truth.ensures).inv

pub returns : goal.returns
returns c =
    let all = c.in_ok-valid.ensures ∙ ap (λ n. replicate n true) c.len.ensures.bits in
    (complement_entries c.args.flags.now c.in_ok-truth.truth c.in_ok-valid.valid all c.in_ok-truth.ensures).is
