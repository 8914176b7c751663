use Rattle.std.proofs.Common.{◌≡◌, ◌∙◌, sym, ap, refl, map, replicate, true, false, Some, None}
use Rattle.std.proofs.lemmas.Result.{IfOk-weaker}
use Rattle.px_semantics.specs.Logic.{xor_row, not_row}
use Rattle.px_semantics.specs.Rows.{boolean_row, BooleanValue}
use Rattle.px_arrays.proofs.BooleanRows.{rows_agree, rows_constant, rows_kept}
use Rattle.px_arrays.proofs.boolean_array.BooleanArray.xor_scalar.Goals as goal

pub returns-in-Some-true : goal.returns-in-Some-true
returns-in-Some-true c =
    let s : c.args.scalar ≡ Some true = c.in-Some-true.is ∙ ap Some c.in-Some-true.field-0-test in
    IfOk-weaker c.not.result _ _ (λ r e. e ∙ rows_agree not_row (λ x. xor_row x (Some (BooleanValue true))) refl refl refl c.args.self.now c.len-len.ensures.typed ∙ ap (λ v. map (λ x. xor_row x (boolean_row v)) c.args.self.now) (sym s)) c.not.ensures

pub returns-in-Some-false : goal.returns-in-Some-false
returns-in-Some-false c =
    let s : c.args.scalar ≡ Some false = c.in-Some-false.is ∙ ap Some c.in-Some-false.field-0-test in
    IfOk-weaker c.try_clone.result _ _ (λ r e. e ∙ rows_kept (λ x. xor_row x (Some (BooleanValue false))) refl refl refl c.args.self.now c.len-len.ensures.typed ∙ ap (λ v. map (λ x. xor_row x (boolean_row v)) c.args.self.now) (sym s)) c.try_clone.ensures

pub returns-in-None : goal.returns-in-None
returns-in-None c =
    let s : c.args.scalar ≡ None = c.in-None.is in
    IfOk-weaker c.filled.result _ _ (λ r e. e ∙ ap (λ v. replicate c.len-len.result (boolean_row v)) s ∙ rows_constant (λ x. xor_row x None) None c.len-len.result refl refl refl c.args.self.now c.len-len.ensures.typed c.len-len.ensures.rows ∙ ap (λ v. map (λ x. xor_row x (boolean_row v)) c.args.self.now) (sym s)) c.filled.ensures
