use Rattle.std.proofs.Common.{◌∙◌, not, sym, ap, length}
use Rattle.std.proofs.lemmas.List.{length-map}
use Rattle.std.proofs.lemmas.Result.{IfOk-weaker}
use Rattle.px_kernels.proofs.SelectionRows.{sides_long}
use Rattle.px_kernels.proofs.selection.select_bits.Goals as goal

pub and-requires-2 : goal.and-requires-2
and-requires-2 c = sym c.requires.same_length ∙ sym c.requires.mask ∙ sym (ap length c.in_ok-others.ensures ∙ length-map c.args.mask.now not)

pub or-requires : goal.or-requires
or-requires c = rw (c.in_ok-first.ensures, c.in_ok-second.ensures, c.in_ok-others.ensures) (sides_long c.args.mask.now c.args.a.now c.args.b.now c.requires.mask c.requires.same_length)

pub returns : goal.returns
returns c = IfOk-weaker c.or.result _ _ (λ r e. e ∙ rw (c.in_ok-first.ensures, c.in_ok-second.ensures, c.in_ok-others.ensures)) c.or.ensures
