use Rattle.std.proofs.Common.{◌∙◌, [], ◌∷◌, ap}
use Rattle.px_types.specs.Integers.{into}
use Rattle.px_arrays.specs.BitmapOf.{bit_of}
use Rattle.px_aggregates.proofs.SetNumbers.{applied_where_set, left_out}
use Rattle.px_aggregates.proofs.folds.apply_where_set.Goals as goal

pub returns-then-is_set : goal.returns-then-is_set
returns-then-is_set g c =
    let n = g.A.Integer.integer in
    let k = g.A.Integer.value_type in
    let f = g.O.Operation.meaning in
    applied_where_set c.is_set.result (bit_of (c.args.word ∷ []) c.args.i) (f (n c.args.answer) (into k (g.T.Integer.integer c.args.value))) (n c.args.answer) (n c.apply.result) c.is_set.ensures c.if-is_set.true
    (c.apply.ensures ∙ ap (f (n c.args.answer)) c.residue_of.ensures)

pub returns : goal.returns
returns g c =
    let n = g.A.Integer.integer in
    let k = g.A.Integer.value_type in
    left_out c.is_set.result (bit_of (c.args.word ∷ []) c.args.i) (g.O.Operation.meaning (n c.args.answer) (into k (g.T.Integer.integer c.args.value))) (n c.args.answer) c.is_set.ensures c.if-is_set.false
