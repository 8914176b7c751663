use Rattle.std.proofs.Common.{◌∙◌, arith, ap, map}
use Rattle.std.proofs.lemmas.List.{take_all, length-map}
use Rattle.px_aggregates.specs.Folds.{fold_into}
use Rattle.px_aggregates.proofs.SetNumbers.{fold_next}
use Rattle.px_aggregates.proofs.folds.fold_values.Goals as goal

pub loop-i-preserved : goal.loop-i-preserved
loop-i-preserved g c =
    let k = g.A.Integer.value_type in
    let f = g.O.Operation.meaning in
    let xs = c.args.values.now in
    fold_next k f g.T.Integer.integer (g.A.Integer.integer c.args.start) (g.A.Integer.integer c.loop-i.answer) (g.A.Integer.integer c.apply-answer.result) xs c.loop-i.i c.index-values-i.result (omega arith)
    c.index-values-i.is c.loop-i.invariant
    (c.apply-answer.ensures ∙ ap (f (g.A.Integer.integer c.loop-i.answer)) c.residue_of.ensures)

pub returns : goal.returns
returns g c =
    let zs = map g.T.Integer.integer c.args.values.now in
    c.loop-i.invariant
    ∙ ap (fold_into g.A.Integer.value_type g.O.Operation.meaning (g.A.Integer.integer c.args.start)) (take_all c.loop-i.i zs (omega (arith, length-map c.args.values.now g.T.Integer.integer)))
