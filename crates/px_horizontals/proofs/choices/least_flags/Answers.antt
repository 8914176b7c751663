use Rattle.std.proofs.Common.{◌∙◌, ap, length, sym}
use Rattle.std.proofs.lemmas.List.{length-map}
use Rattle.std.proofs.lemmas.Result.{IfOk-weaker}
use Rattle.px_horizontals.proofs.Chosen.{least_flags_are, true_or_null}
use Rattle.px_horizontals.proofs.choices.least_flags.Goals as goal

pub and-requires : goal.and-requires
and-requires c =
    ap length c.in_ok-first.ensures ∙ length-map c.args.a.now true_or_null ∙ c.requires ∙ sym (ap length c.in_ok-second.ensures ∙ length-map c.args.b.now true_or_null)

pub returns : goal.returns
returns c =
    IfOk-weaker c.and.result _ _
    (λ f e. e ∙ least_flags_are c.args.a.now c.args.b.now c.in_ok-first.first c.in_ok-second.second c.in_ok-first.ensures c.in_ok-second.ensures)
    c.and.ensures
