use Rattle.std.proofs.Common.{rules}
use Rattle.std.proofs.lemmas.Iterator.Consumers.{YieldsList-at, map_from_collect}
use Rattle.std.proofs.lemmas.Iterator.{YieldsList-from_map_by, YieldsList-from_slice, YieldsList-from_zip}
use Rattle.px_arrays.proofs.Bitmaps.{zip2_maps}
use Rattle.px_arrays.proofs.loops.elementwise_values.Goals as goal

pub returns : goal.returns
returns g c =
    let n = g.T.Integer.integer in
    let f = g.O.Operation.meaning in
    rw (← zip2_maps n f c.args.a.now c.args.b.now) (map_from_collect c.collect.result c.collect.ensures.ran (YieldsList-from_map_by _ n (λ p. f (n p.0) (n p.1)) (YieldsList-at c.map.ensures.source (YieldsList-from_zip (YieldsList-at c.zip.ensures.first (YieldsList-from_slice c.args.a.now c.iter.ensures.rest)) (YieldsList-from_slice c.args.b.now c.zip.ensures.second.0))) c.map.ensures.closure (λ x r q k. search rules)))
