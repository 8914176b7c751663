use Rattle.std.proofs.Common.{◌∙◌, [], ◌∷◌, arith, map, length}
use Rattle.std.proofs.lemmas.List.{length-map}
use Rattle.px_aggregates.proofs.SetNumbers.{fold_next_set, fold_all_words}
use Rattle.px_types.specs.Integers.{into}
use Rattle.px_aggregates.proofs.folds.fold_set_bits.Goals as goal

pub loop-i-preserved : goal.loop-i-preserved
loop-i-preserved g c =
    let k = g.A.Integer.value_type in
    let f = g.O.Operation.meaning in
    let xs = c.args.values.now in
    fold_next_set k f g.T.Integer.integer (g.A.Integer.integer c.args.start) (g.A.Integer.integer c.loop-i.answer) (g.A.Integer.integer c.apply_where_set-answer.result) c.args.word xs c.loop-i.i c.index-values-i.result (omega arith)
    c.index-values-i.is c.loop-i.invariant c.apply_where_set-answer.ensures

pub returns : goal.returns
returns g c =
    let zs = map g.T.Integer.integer c.args.values.now in
    let f = g.O.Operation.meaning in
    c.loop-i.invariant
    ∙ fold_all_words (λ a b. f a (into g.A.Integer.value_type b)) (g.A.Integer.integer c.args.start) (c.args.word ∷ []) zs c.loop-i.i (omega (arith, length-map c.args.values.now g.T.Integer.integer))
