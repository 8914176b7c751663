use Rattle.std.proofs.Common.{◌∙◌, ◌*◌, arith, map}
use Rattle.std.proofs.lemmas.List.{length-map}
use Rattle.px_types.specs.Integers.{into}
use Rattle.px_aggregates.proofs.SetNumbers.{words_step, fold_all_words}
use Rattle.px_aggregates.proofs.folds.fold_words.Goals as goal

pub loop-at-preserved : goal.loop-at-preserved
loop-at-preserved g c =
    let n = g.A.Integer.integer in
    words_step g.A.Integer.value_type g.O.Operation.meaning g.T.Integer.integer (n c.args.start) (n c.loop-at.answer) (n c.fold_word-answer.result) c.args.words.now c.args.values.now c.loop-at.at c.min-end.result
    c.min-end.ensures c.loop-at.invariant c.fold_word-answer.ensures

pub returns : goal.returns
returns g c =
    let zs = map g.T.Integer.integer c.args.values.now in
    let f = g.O.Operation.meaning in
    c.loop-at.invariant
    ∙ fold_all_words (λ a b. f a (into g.A.Integer.value_type b)) (g.A.Integer.integer c.args.start) c.args.words.now zs (64 * c.loop-at.at) (omega (arith, c.requires.whole, length-map c.args.values.now g.T.Integer.integer))
