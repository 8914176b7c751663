use Rattle.std.proofs.Common.{◌∙◌, sym, ap, length, false}
use Rattle.std.proofs.lemmas.Result.{IfOk-weaker}
use Rattle.px_selection.proofs.Taken.{length-at_positions, taken_booleans}
use Rattle.px_selection.proofs.take.take_booleans.Goals as goal

pub masked-requires : goal.masked-requires
masked-requires c =
    let ks = c.args.positions.now in
    ap length c.in_ok-truth.ensures ∙ length-at_positions false c.truth.result.now ks ∙ sym (ap length c.in_ok-valid.ensures ∙ length-at_positions false c.valid.result.now ks)

pub returns : goal.returns
returns c =
    IfOk-weaker c.masked.result _ _
    (λ r e. e ∙ taken_booleans c.args.a.now c.truth.result.now c.valid.result.now c.in_ok-truth.truth c.in_ok-valid.valid c.args.positions.now c.len.ensures.typed
    c.truth.ensures c.valid.ensures c.in_ok-truth.ensures c.in_ok-valid.ensures)
    c.masked.ensures
