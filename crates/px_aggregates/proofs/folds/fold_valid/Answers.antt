use Rattle.std.proofs.Common.{◌∙◌, ap, sym, not, count_by}
use Rattle.px_aggregates.specs.Folds.{fold_into}
use Rattle.px_aggregates.proofs.SetNumbers.{all_valid, valid_numbers, bits_same}
use Rattle.px_aggregates.proofs.folds.fold_valid.Goals as goal

pub returns-then-zeros-eq0 : goal.returns-then-zeros-eq0
returns-then-zeros-eq0 g c =
    let rows = c.args.rows.now in
    let xs = c.values-values.result.now in
    c.fold_values.ensures
    ∙ ap (fold_into g.A.Integer.value_type g.O.Operation.meaning (g.A.Integer.integer c.args.start))
    (all_valid g.T.Integer.integer rows xs c.values-values.ensures.entries c.values-values.ensures.same_length
    (sym (c.zeros.ensures.count ∙ ap (count_by not) c.valid-valid.ensures) ∙ c.if-zeros-eq0.true))

pub returns : goal.returns
returns g c =
    let rows = c.args.rows.now in
    let xs = c.values-values.result.now in
    c.fold_words.ensures
    ∙ ap (fold_into g.A.Integer.value_type g.O.Operation.meaning (g.A.Integer.integer c.args.start))
    (valid_numbers g.T.Integer.integer rows xs c.words.result.now c.values-values.ensures.entries c.values-values.ensures.same_length
    (bits_same c.words.result.now c.valid-valid.result.now _ c.valid-valid.ensures c.words.ensures.bits))
