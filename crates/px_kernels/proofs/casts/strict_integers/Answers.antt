use Rattle.std.proofs.Common.{◌∙◌, sym, ap, length, is_some, inr, refl, Some, None, cond}
use Rattle.std.proofs.lemmas.List.{length-map}
use Rattle.px_semantics.specs.Casts.{as_integer, cast_row}
use Rattle.px_types.specs.declared.type_parts.CastOptions.TheVariants.{NonStrict}
use Rattle.px_kernels.proofs.CastRows.{strict_gives}
use Rattle.px_kernels.proofs.casts.strict_integers.Goals as goal

pub loses_bit-requires : goal.loses_bit-requires
loses_bit-requires g c =
    ap length c.valid.ensures ∙ length-map c.args.a.now is_some
    ∙ sym (ap length c.valid-2.ensures ∙ length-map c.in_ok-rows.rows is_some ∙ ap length c.in_ok-rows.ensures ∙ length-map c.args.a.now (cast_row (as_integer NonStrict g.T.Integer.value_type)))

pub returns-then-loses_bit : goal.returns-then-loses_bit
returns-then-loses_bit g c =
    let lost = rw (c.valid.ensures, c.valid-2.ensures) at c.loses_bit.ensures in
    record {
      rows = inr (refl, strict_gives g.T.Integer.value_type c.args.a.now c.in_ok-rows.rows c.loses_bit.result c.in_ok-rows.ensures lost ∙ ap (λ b. cond b None (Some c.in_ok-rows.rows)) c.if-loses_bit.true);
    }

pub returns : goal.returns
returns g c =
    let lost = rw (c.valid.ensures, c.valid-2.ensures) at c.loses_bit.ensures in
    record {
      rows = sym (strict_gives g.T.Integer.value_type c.args.a.now c.in_ok-rows.rows c.loses_bit.result c.in_ok-rows.ensures lost ∙ ap (λ b. cond b None (Some c.in_ok-rows.rows)) c.if-loses_bit.false);
    }
