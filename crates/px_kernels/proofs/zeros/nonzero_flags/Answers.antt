use Rattle.std.proofs.Common.{rules, not, Bool, ℤ}
use Rattle.std.proofs.lemmas.Iterator.{items_from_collect, YieldsList-from_map, YieldsList-from_slice}
use Rattle.std.proofs.lemmas.Iterator.Consumers.{YieldsList-at}
use Rattle.px_semantics.specs.Arithmetic.{is_zero}
use Rattle.px_arrays.proofs.Bitmaps.{maps}
use Rattle.px_kernels.proofs.zeros.nonzero_flags.Goals as goal

pub returns : goal.returns
returns g c =
    let n = g.T.Integer.integer in
    let f : ℤ → Bool = λ z. not (is_zero z) in
    rw (maps n f c.args.values.now) (items_from_collect c.collect.result c.collect.ensures.ran (YieldsList-from_map _ (λ x. f (n x)) (YieldsList-at c.map.ensures.source (YieldsList-from_slice c.args.values.now c.iter.ensures.rest)) c.map.ensures.closure (λ x r q k. search rules)))
