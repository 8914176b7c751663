use Rattle.std.proofs.Common.{◌∙◌, sym, ap, arith, length, is_some}
use Rattle.std.proofs.lemmas.List.{length-map, length-append}
use Rattle.std.proofs.lemmas.Result.{IfOk-weaker}
use Rattle.px_semantics.specs.Logic.{is_true}
use Rattle.px_selection.proofs.Appended.{appended_bitmaps}
use Rattle.px_selection.proofs.concatenation.appended_booleans.Goals as goal

pub appended_bits-requires : goal.appended_bits-requires
appended_bits-requires c = omega (arith, ap length c.truth.ensures, ap length c.truth-2.ensures, length-map c.args.a.now is_true, length-map c.args.b.now is_true, c.requires)

pub appended_bits-requires-2 : goal.appended_bits-requires-2
appended_bits-requires-2 c = omega (arith, ap length c.valid.ensures, ap length c.valid-2.ensures, length-map c.args.a.now is_some, length-map c.args.b.now is_some, c.requires)

pub masked-requires : goal.masked-requires
masked-requires c =
    omega (
      arith,
      ap length c.in_ok-truth.ensures,
      length-append c.truth.result.now c.truth-2.result.now,
      ap length c.in_ok-valid.ensures,
      length-append c.valid.result.now c.valid-2.result.now,
      ap length c.truth.ensures,
      ap length c.truth-2.ensures,
      ap length c.valid.ensures,
      ap length c.valid-2.ensures,
      length-map c.args.a.now is_true,
      length-map c.args.b.now is_true,
      length-map c.args.a.now is_some,
      length-map c.args.b.now is_some,
    )

pub returns : goal.returns
returns c =
    IfOk-weaker c.masked.result _ _
    (λ r e. e ∙ appended_bitmaps c.args.a.now c.args.b.now c.truth.result.now c.truth-2.result.now c.in_ok-truth.truth c.valid.result.now c.valid-2.result.now c.in_ok-valid.valid
    c.len.ensures.typed c.len-2.ensures.typed c.truth.ensures c.truth-2.ensures c.valid.ensures c.valid-2.ensures c.in_ok-truth.ensures c.in_ok-valid.ensures)
    c.masked.ensures
