use Rattle.std.proofs.Common.{◌∙◌, ap, length, sym}
use Rattle.std.proofs.lemmas.List.{length-map}
use Rattle.std.proofs.lemmas.Result.{IfOk-weaker}
use Rattle.px_semantics.specs.Logic.{is_true}
use Rattle.px_horizontals.proofs.Chosen.{second_long, first_flags_are}
use Rattle.px_horizontals.proofs.choices.first_flags.Goals as goal

pub or-requires : goal.or-requires
or-requires c =
    let xs = c.args.a.now in
    ap length c.truth-2.ensures ∙ length-map xs is_true
    ∙ sym (second_long xs c.args.b.now c.valid.result.now c.in_ok-missing.missing c.truth.result.now c.in_ok-second.second c.requires
    c.valid.ensures c.in_ok-missing.ensures c.truth.ensures c.in_ok-second.ensures)

pub returns : goal.returns
returns c =
    IfOk-weaker c.or.result _ _
    (λ f e. e ∙ first_flags_are c.args.a.now c.args.b.now c.valid.result.now c.in_ok-missing.missing c.truth.result.now c.in_ok-second.second c.truth-2.result.now
    c.valid.ensures c.in_ok-missing.ensures c.truth.ensures c.in_ok-second.ensures c.truth-2.ensures)
    c.or.ensures
