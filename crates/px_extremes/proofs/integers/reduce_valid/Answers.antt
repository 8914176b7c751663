use Rattle.std.proofs.Common.{◌≡◌}
use Rattle.px_extremes.proofs.IntegerReductions.{first_in_range, reduced, reduced_none}
use Rattle.px_extremes.proofs.integers.reduce_valid.Goals as goal

pub returns-in_default : goal.returns-in_default
returns-in_default g c = reduced_none g.O.Operation.meaning c.args.rows.now (rw c.in_default.is at c.first_value.ensures)

pub returns : goal.returns
returns g c =
    let k = g.T.Integer.value_type in
    let rows = c.args.rows.now in
    let z = g.T.Integer.integer c.in-Some.first in
    let e = rw c.in-Some.is at c.first_value.ensures in
    let i = first_in_range k rows z c.len.ensures.typed e in
    reduced k z i g.O.Operation.meaning z z (g.T.Integer.integer c.fold_valid.result) rows c.len.ensures.typed e (c.requires z i) c.fold_valid.ensures
