use Rattle.std.proofs.Common.{◌≡◌, ◌∙◌, sym, ap, refl, map, replicate, true, false, Some}
use Rattle.std.proofs.lemmas.Result.{IfOk-weaker}
use Rattle.px_semantics.specs.Logic.{and_row}
use Rattle.px_semantics.specs.Rows.{boolean_row, BooleanValue}
use Rattle.px_arrays.proofs.BooleanRows.{rows_constant, rows_kept}
use Rattle.px_arrays.proofs.boolean_array.BooleanArray.and_scalar.Goals as goal

pub returns-in-Some-true : goal.returns-in-Some-true
returns-in-Some-true c =
    let s : c.args.scalar ≡ Some true = c.in-Some-true.is ∙ ap Some c.in-Some-true.field-0-test in
    IfOk-weaker c.try_clone.result _ _ (λ r e. e ∙ rows_kept (λ x. and_row x (Some (BooleanValue true))) refl refl refl c.args.self.now c.len-len.ensures.typed ∙ ap (λ v. map (λ x. and_row x (boolean_row v)) c.args.self.now) (sym s)) c.try_clone.ensures

pub returns-in-Some-false : goal.returns-in-Some-false
returns-in-Some-false c =
    let s : c.args.scalar ≡ Some false = c.in-Some-false.is ∙ ap Some c.in-Some-false.field-0-test in
    IfOk-weaker c.filled.result _ _ (λ r e. e ∙ ap (λ b. replicate c.len-len.result (boolean_row (Some b))) c.in-Some-false.field-0-test ∙ rows_constant (λ x. and_row x (Some (BooleanValue false))) (Some (BooleanValue false)) c.len-len.result refl refl refl c.args.self.now c.len-len.ensures.typed c.len-len.ensures.rows ∙ ap (λ v. map (λ x. and_row x (boolean_row v)) c.args.self.now) (sym s)) c.filled.ensures
