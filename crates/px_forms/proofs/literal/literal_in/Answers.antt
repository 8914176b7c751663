use Rattle.std.proofs.Common.{rules, FitsSigned}
use Rattle.std.proofs.lemmas.Int.{to_z-of_z}
use Rattle.std.specs.Int.{w128}
use Rattle.px_forms.proofs.Literals.{int128_in, open_in}
use Rattle.px_forms.proofs.literal.literal_in.Goals as goal

pub returns-in-Int128 : goal.returns-in-Int128
returns-in-Int128 c =
    let fits : FitsSigned w128 c.args.wide = search rules in
    int128_in c.args.value_type c.args.wide _ c.in-Int128.is (to_z-of_z w128 c.args.wide fits) fits

pub returns-in-Int : goal.returns-in-Int
returns-in-Int c =
    let fits : FitsSigned w128 c.args.wide = search rules in
    open_in c.args.value_type c.args.wide _ c.in-Int.is (to_z-of_z w128 c.args.wide fits) fits
