use Rattle.std.proofs.Common.{◌∙◌, ◌&&◌, sym, ap, length, is_some}
use Rattle.std.proofs.lemmas.List.{length-map}
use Rattle.std.proofs.lemmas.Simd.{length-zip2}
use Rattle.px_kernels.proofs.fusion.validity_of.Goals as goal

pub and-requires-2 : goal.and-requires-2
and-requires-2 g c =
    let a = ap length c.valid.ensures ∙ length-map c.args.a.now is_some in
    let b = ap length c.valid-2.ensures ∙ length-map c.args.b.now is_some in
    ap length c.in_ok-pair.ensures ∙ length-zip2 (λ u v. u && v) c.valid.result.now c.valid-2.result.now (a ∙ c.requires.first ∙ sym b) ∙ a
    ∙ c.requires.first ∙ c.requires.second ∙ sym (ap length c.valid-3.ensures ∙ length-map c.args.c.now is_some)
