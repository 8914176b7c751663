use Rattle.std.proofs.Common.{rules, FitsSigned, sym, ◌∙◌}
use Rattle.std.proofs.lemmas.Int.{to_z-of_z}
use Rattle.std.specs.Int.{w128}
use Rattle.px_forms.proofs.Literals.{open_bare, open_typed}
use Rattle.px_forms.proofs.write.open_literal.Goals as goal

pub returns-in_ok-bare : goal.returns-in_ok-bare
returns-in_ok-bare c =
    let fits : FitsSigned w128 c.args.n = search rules in
    open_bare c.args.n _ _ _ (to_z-of_z w128 c.args.n fits) fits c.in_ok-value.ensures (sym c.is_number.ensures ∙ c.if-is_number.true) c.in_ok-bare.ensures

pub returns-in_ok-typed : goal.returns-in_ok-typed
returns-in_ok-typed c =
    let fits : FitsSigned w128 c.args.n = search rules in
    open_typed c.args.n _ _ _ (to_z-of_z w128 c.args.n fits) fits c.in_ok-value.ensures (sym c.is_number.ensures ∙ c.if-is_number.false) c.in_ok-typed.ensures
