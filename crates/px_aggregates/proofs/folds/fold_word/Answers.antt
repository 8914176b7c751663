use Rattle.std.proofs.Common.{◌∙◌, ap, arith, map, sym}
use Rattle.std.proofs.lemmas.List.{length-map}
use Rattle.px_aggregates.specs.Folds.{fold_into}
use Rattle.px_aggregates.proofs.SetNumbers.{all_ones}
use Rattle.px_aggregates.proofs.folds.fold_word.Goals as goal

pub returns-then-word-eq18446744073709551615 : goal.returns-then-word-eq18446744073709551615
returns-then-word-eq18446744073709551615 g c =
    let zs = map g.T.Integer.integer c.args.values.now in
    c.fold_values.ensures
    ∙ ap (fold_into g.A.Integer.value_type g.O.Operation.meaning (g.A.Integer.integer c.args.start))
    (sym (all_ones zs c.args.word (omega (arith, c.requires, length-map c.args.values.now g.T.Integer.integer)) c.if-word-eq18446744073709551615.true))
