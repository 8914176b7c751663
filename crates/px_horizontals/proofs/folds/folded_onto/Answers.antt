use Rattle.std.proofs.Common.{◌≡◌, ◌⊎◌, ◌∙◌, ℕ, ap, sym, subst, refl, length}
use Rattle.px_column.specs.ColumnOf.{type_of, rows_of}
use Rattle.px_horizontals.proofs.FoldRows.{fits_at, fold_step, step_long}
use Rattle.px_horizontals.proofs.folds.folded_onto.Goals as goal

pub combine-requires-clause-long : goal.combine-requires-clause-long
combine-requires-clause-long g c =
    let rows = rows_of c.input-item.result.now in
    subst (λ (n : ℕ). (length rows ≡ 1) ⊎ (length rows ≡ n)) (sym c.loop-input.invariant.long)
    (fits_at (length (rows_of c.args.start)) c.args.inputs.now c.loop-input.input-index c.input-item.result c.loop-input-test.true c.input-item.is c.requires.long)

pub loop-input-preserved : goal.loop-input-preserved
loop-input-preserved g c =
    let l = c.loop-input in
    let rows = rows_of c.input-item.result.now in
    let fit = subst (λ (n : ℕ). (length rows ≡ 1) ⊎ (length rows ≡ n)) (sym l.invariant.long)
    (fits_at (length (rows_of c.args.start)) c.args.inputs.now l.input-index c.input-item.result c.loop-input-test.true c.input-item.is c.requires.long) in
    record {
      value_type = c.in_ok-total.ensures.value_type ∙ l.invariant.value_type;
      long = ap length c.in_ok-total.ensures.rows ∙ step_long (g.F.Fold.step (type_of l.total)) (length (rows_of l.total)) (rows_of l.total) rows refl fit ∙ l.invariant.long;
      rows = fold_step g.F.Fold.step c.args.start l.total c.in_ok-total.total c.args.inputs.now l.input-index c.input-item.result c.loop-input-test.true c.input-item.is
          l.invariant.value_type l.invariant.long l.invariant.rows c.in_ok-total.ensures.rows;
    }
