use Rattle.std.proofs.Common.{rules, ℤ}
use Rattle.std.proofs.lemmas.Iterator.Consumers.{YieldsList-at, map_from_collect}
use Rattle.std.proofs.lemmas.Iterator.{YieldsList-from_map_by, YieldsList-from_slice}
use Rattle.px_semantics.specs.Bitwise.{complement}
use Rattle.px_arrays.proofs.Bitmaps.{maps}
use Rattle.px_arrays.proofs.loops.complements.Goals as goal

pub returns : goal.returns
returns g c =
    let n = g.T.Integer.integer in
    let f : ℤ → ℤ = complement g.T.Integer.value_type in
    rw (maps n f c.args.a.now) (map_from_collect c.collect.result c.collect.ensures.ran (YieldsList-from_map_by _ n (λ x. f (n x)) (YieldsList-at c.map.ensures.source (YieldsList-from_slice c.args.a.now c.iter.ensures.rest)) c.map.ensures.closure (λ x r q k. search rules)))
