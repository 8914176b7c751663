use Rattle.std.proofs.Common.{◌∙◌, rules, arith, pos, cond, false, get_or}
use Rattle.std.proofs.lemmas.Iterator.{YieldsList-from_map_by, YieldsList-from_range}
use Rattle.std.proofs.lemmas.Iterator.Consumers.{map_from_collect}
use Rattle.std.proofs.lemmas.Result.{IfOk-weaker}
use Rattle.px_kernels.proofs.CastRows.{bits_by_place}
use Rattle.px_kernels.proofs.casts.bits_as_integers.Goals as goal

pub returns : goal.returns
returns g c =
    let m = g.T.Integer.integer in
    let bits = c.args.bits.now in
    IfOk-weaker c.collect.result _ _ (λ v e. e ∙ bits_by_place (λ b. cond b (pos 1) (pos 0)) bits c.len.result c.len.ensures.bits)
    (map_from_collect c.collect.result c.collect.ensures.ran (YieldsList-from_map_by _ m (λ i. cond (get_or bits i false) (pos 1) (pos 0)) (YieldsList-from_range 0 c.len.result c.len.result c.map.ensures.source (omega arith)) c.map.ensures.closure (λ x r q k. search rules)))
