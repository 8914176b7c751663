use Rattle.std.proofs.Common.{rules, FitsSigned}
use Rattle.std.proofs.lemmas.Int.{to_z-of_z}
use Rattle.std.specs.Int.{w128}
use Rattle.px_forms.proofs.Literals.{int128_written}
use Rattle.px_forms.proofs.write.int128_literal.Goals as goal

pub returns : goal.returns
returns c =
    let fits : FitsSigned w128 c.args.n = search rules in
    int128_written c.args.n _ _ _ (to_z-of_z w128 c.args.n fits) fits c.in_ok-value.ensures c.in_ok-typed.ensures
