use Rattle.std.proofs.Common.{◌∙◌, pos, int_lt}
use Rattle.px_types.specs.Integers.{into}
use Rattle.px_extremes.proofs.IntegerReductions.{max_reduced, same_choice}
use Rattle.px_extremes.proofs.integers.greatest_integer.Goals as goal

pub reduce_valid-requires : goal.reduce_valid-requires
reduce_valid-requires g c = λ z h. same_choice (int_lt z z) z

pub returns : goal.returns
returns g c =
    let k = g.T.Integer.value_type in
    c.reduce_valid.ensures ∙ max_reduced k (into k (pos 0)) (g.met.T.Integer.into_range (pos 0)) c.args.rows.now c.len.ensures.typed
