use Rattle.std.proofs.Common.{rules, Bool, ℤ}
use Rattle.std.proofs.lemmas.Iterator.{items_from_collect, YieldsList-from_map, YieldsList-from_slice}
use Rattle.std.proofs.lemmas.Iterator.Consumers.{YieldsList-at}
use Rattle.px_types.specs.ValueTypes.{holds}
use Rattle.px_arrays.proofs.Bitmaps.{maps}
use Rattle.px_kernels.proofs.casts.in_range_flags.Goals as goal

pub returns : goal.returns
returns g c =
    let n = g.S.Integer.integer in
    let f : ℤ → Bool = holds g.T.Integer.value_type in
    rw (maps n f c.args.values.now) (items_from_collect c.collect.result c.collect.ensures.ran (YieldsList-from_map _ (λ x. f (n x)) (YieldsList-at c.map.ensures.source (YieldsList-from_slice c.args.values.now c.iter.ensures.rest)) c.map.ensures.closure (λ x r q k. search rules)))
