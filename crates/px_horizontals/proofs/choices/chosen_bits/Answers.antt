use Rattle.std.proofs.Common.{◌∙◌}
use Rattle.std.proofs.lemmas.Result.{IfOk-weaker}
use Rattle.px_horizontals.proofs.Chosen.{flags_long, chosen_entries}
use Rattle.px_horizontals.proofs.choices.chosen_bits.Goals as goal

pub masked-requires : goal.masked-requires
masked-requires c =
    flags_long c.args.choice c.args.a.now c.args.b.now c.in_ok-flags.flags c.valid.result.now c.valid-2.result.now c.in_ok-valid.valid c.requires
    c.in_ok-flags.ensures c.valid.ensures c.valid-2.ensures c.in_ok-valid.ensures

pub returns : goal.returns
returns c =
    IfOk-weaker c.masked.result _ _
    (λ r e. e ∙ chosen_entries c.args.choice c.args.a.now c.args.b.now c.in_ok-flags.flags c.valid.result.now c.valid-2.result.now c.in_ok-valid.valid
    c.len.ensures.typed c.len-2.ensures.typed c.in_ok-flags.ensures c.valid.ensures c.valid-2.ensures c.in_ok-valid.ensures)
    c.masked.ensures
