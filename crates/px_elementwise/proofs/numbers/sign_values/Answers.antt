use Rattle.std.proofs.Common.{◌∙◌, rules, ℤ, sym}
use Rattle.std.proofs.lemmas.Iterator.{YieldsList-from_map_by, YieldsList-from_slice}
use Rattle.std.proofs.lemmas.Iterator.Consumers.{YieldsList-at, map_from_collect}
use Rattle.std.proofs.lemmas.List.{map-id}
use Rattle.std.proofs.lemmas.Result.{IfOk-weaker}
use Rattle.px_semantics.specs.Bounds.{sign_of}
use Rattle.px_arrays.proofs.Bitmaps.{maps}
use Rattle.px_elementwise.proofs.numbers.sign_values.Goals as goal

pub returns : goal.returns
returns g c =
    let n = g.T.Integer.integer in
    let w : ℤ → ℤ = λ z. z in
    rw (maps n sign_of c.args.values.now)
    (IfOk-weaker c.collect.result _ _ (λ v e. sym (map-id v.items) ∙ e)
    (map_from_collect c.collect.result c.collect.ensures.ran (YieldsList-from_map_by _ w (λ x. sign_of (n x)) (YieldsList-at c.map.ensures.source (YieldsList-from_slice c.args.values.now c.iter.ensures.rest)) c.map.ensures.closure (λ x r q k. search rules))))
