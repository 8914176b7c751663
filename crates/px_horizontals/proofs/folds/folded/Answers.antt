use Rattle.std.proofs.Common.{ℕ, ◌∙◌, inr, refl, ap, sym, subst, length}
use Rattle.px_column.specs.ColumnOf.{type_of, rows_of}
use Rattle.px_semantics.proofs.Joining.{stretch_long}
use Rattle.px_horizontals.specs.Folds.{fold_row, FitLength}
use Rattle.px_horizontals.specs.Inputs.{values_of_buffers, rows_of_buffers, first_type}
use Rattle.px_horizontals.proofs.FoldRows.{none_horizontal, joined_fit, takes_rest, folded_answer}
use Rattle.px_horizontals.proofs.folds.folded.Goals as goal

pub returns-in_default-joined_length-clause-rows :
    goal.returns-in_default-joined_length-clause-rows
returns-in_default-joined_length-clause-rows g c =
    let k = first_type (values_of_buffers c.args.inputs.now) in
    inr (refl, none_horizontal k (fold_row (g.F.Fold.step k)) c.args.inputs.now c.in_default-joined_length.ensures.length)

pub stretched-requires : goal.stretched-requires
stretched-requires g c =
    let fit = joined_fit c.in-Some.first.now c.in-Some.rest.now c.args.inputs.now c.in-Some-joined_length.len c.in-Some.ensures.cases.0 c.in-Some-joined_length.ensures.length in
    fit.0

pub folded_onto-requires-clause-takes : goal.folded_onto-requires-clause-takes
folded_onto-requires-clause-takes g c =
    takes_rest g.F.Fold.takes c.in-Some.first.now c.in-Some.rest.now c.args.inputs.now (type_of c.in_ok-start.start) c.in-Some.ensures.cases.0 c.in_ok-start.ensures.value_type c.requires.takes c.requires.same

pub folded_onto-requires-clause-long : goal.folded_onto-requires-clause-long
folded_onto-requires-clause-long g c =
    let len = c.in-Some-joined_length.len in
    let fit = joined_fit c.in-Some.first.now c.in-Some.rest.now c.args.inputs.now len c.in-Some.ensures.cases.0 c.in-Some-joined_length.ensures.length in
    subst (λ (n : ℕ). FitLength n (rows_of_buffers c.in-Some.rest.now))
    (sym (ap length c.in_ok-start.ensures.rows ∙ stretch_long (rows_of c.in-Some.first.now.now) len fit.0)) fit.1

pub returns-clause-rows : goal.returns-clause-rows
returns-clause-rows g c =
    folded_answer g.F.Fold.step c.in-Some.first.now c.in-Some.rest.now c.args.inputs.now c.in_ok-start.start c.in-Some-joined_length.len c.folded_onto.result
    c.in-Some.ensures.cases.0 c.in_ok-start.ensures.value_type c.in_ok-start.ensures.rows c.in-Some-joined_length.ensures.length
    c.folded_onto.ensures.value_type c.folded_onto.ensures.rows c.folded_onto.ensures.err
