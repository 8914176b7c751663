use Rattle.std.proofs.Common.{◌∙◌, ◌≤◌, sym, ap, arith, length, is_some}
use Rattle.std.proofs.lemmas.List.{length-map}
use Rattle.std.proofs.lemmas.Result.{IfOk-weaker}
use Rattle.px_semantics.specs.Logic.{is_true}
use Rattle.px_selection.proofs.Ranged.{length-range, ranged_booleans}
use Rattle.px_selection.proofs.ranges.range_booleans.Goals as goal

pub range_bits-requires-clause-inside : goal.range_bits-requires-clause-inside
range_bits-requires-clause-inside c = omega (arith, ap length c.truth.ensures, length-map c.args.a.now is_true, c.requires.inside)

pub range_bits-requires-2-clause-inside : goal.range_bits-requires-2-clause-inside
range_bits-requires-2-clause-inside c = omega (arith, ap length c.valid.ensures, length-map c.args.a.now is_some, c.requires.inside)

pub masked-requires : goal.masked-requires
masked-requires c =
    let s = c.args.start in
    let e = c.args.end in
    let first : e ≤ length c.truth.result.now = omega (arith, ap length c.truth.ensures, length-map c.args.a.now is_true, c.requires.inside) in
    let second : e ≤ length c.valid.result.now = omega (arith, ap length c.valid.ensures, length-map c.args.a.now is_some, c.requires.inside) in
    ap length c.in_ok-truth.ensures ∙ length-range c.truth.result.now s e c.requires.order first
    ∙ sym (ap length c.in_ok-valid.ensures ∙ length-range c.valid.result.now s e c.requires.order second)

pub returns : goal.returns
returns c =
    IfOk-weaker c.masked.result _ _
    (λ r e. e ∙ ranged_booleans c.args.a.now c.truth.result.now c.valid.result.now c.in_ok-truth.truth c.in_ok-valid.valid c.args.start c.args.end c.len.ensures.typed
    c.truth.ensures c.valid.ensures c.in_ok-truth.ensures c.in_ok-valid.ensures)
    c.masked.ensures
