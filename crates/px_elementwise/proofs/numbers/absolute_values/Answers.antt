use Rattle.std.proofs.Common.{rules, ℤ, pos, unsigned_abs}
use Rattle.std.proofs.lemmas.Iterator.{YieldsList-from_map_by, YieldsList-from_slice}
use Rattle.std.proofs.lemmas.Iterator.Consumers.{YieldsList-at, map_from_collect}
use Rattle.px_types.specs.Integers.{into}
use Rattle.px_arrays.proofs.Bitmaps.{maps}
use Rattle.px_elementwise.proofs.numbers.absolute_values.Goals as goal

pub returns : goal.returns
returns g c =
    let n = g.T.Integer.integer in
    let f : ℤ → ℤ = λ z. into g.T.Integer.value_type (pos (unsigned_abs z)) in
    rw (maps n f c.args.values.now) (map_from_collect c.collect.result c.collect.ensures.ran (YieldsList-from_map_by _ n (λ x. f (n x)) (YieldsList-at c.map.ensures.source (YieldsList-from_slice c.args.values.now c.iter.ensures.rest)) c.map.ensures.closure (λ x r q k. search rules)))
