use Rattle.px_forms.proofs.Literals.{number_written}
use Rattle.px_forms.proofs.write.number_literal.Goals as goal

pub returns : goal.returns
returns g c =
    number_written c.args.value_type g.T.Integer.value_type (g.T.Integer.integer c.args.n) _ _ c.requires c.to_wide-wide.ensures.inside c.number_value-value.ensures c.in_ok-typed.ensures
