use Rattle.std.proofs.Common.{◌∙◌, ap, bit_xor}
use Rattle.px_semantics.specs.Bitwise.{bitwise}
use Rattle.px_extremes.proofs.IntegerReductions.{first_in_range, reduced, reduced_none, zero_xor}
use Rattle.px_extremes.proofs.integers.xor_valid.Goals as goal

pub returns-in_default : goal.returns-in_default
returns-in_default g c = reduced_none (bitwise bit_xor g.T.Integer.value_type) c.args.rows.now (rw c.in_default.is at c.first_value.ensures)

pub returns : goal.returns
returns g c =
    let k = g.T.Integer.value_type in
    let n = g.T.Integer.integer in
    let rows = c.args.rows.now in
    let z = n c.in-Some._first in
    let e = rw c.in-Some.is at c.first_value.ensures in
    let i = first_in_range k rows z c.len.ensures.typed e in
    reduced k z i (bitwise bit_xor k) (n c.zero.result) z (n c.fold_valid.result) rows c.len.ensures.typed e
    (ap (λ s. bitwise bit_xor k s z) c.zero.ensures.value ∙ zero_xor k z i) c.fold_valid.ensures
