use Rattle.std.proofs.Common.{rules}
use Rattle.std.proofs.lemmas.Iterator.Consumers.{YieldsList-at, map_from_collect}
use Rattle.std.proofs.lemmas.Iterator.{YieldsList-from_map_by, YieldsList-from_slice, YieldsList-from_zip}
use Rattle.px_semantics.specs.Fused.{fused}
use Rattle.px_types.specs.Integers.{into}
use Rattle.px_kernels.proofs.FormRows.{fused_maps}
use Rattle.px_kernels.proofs.fusion.fused_values.Goals as goal

pub returns : goal.returns
returns g c =
    let n = g.T.Integer.integer in
    let form = g.F.Form.form in
    let value_type = g.T.Integer.value_type in
    let pairs = YieldsList-from_zip (YieldsList-at c.zip.ensures.first (YieldsList-from_slice c.args.a.now c.iter.ensures.rest)) (YieldsList-from_slice c.args.b.now c.zip.ensures.second.0) in
    let triples = YieldsList-from_zip (YieldsList-at c.zip-2.ensures.first pairs) (YieldsList-from_slice c.args.c.now c.zip-2.ensures.second.0) in
    rw (← fused_maps n form value_type c.args.a.now c.args.b.now c.args.c.now)
    (map_from_collect c.collect.result c.collect.ensures.ran
    (YieldsList-from_map_by _ n (λ p. into value_type (fused form (n p.0.0) (n p.0.1) (n p.1))) (YieldsList-at c.map.ensures.source triples) c.map.ensures.closure (λ x r q k. search rules)))
