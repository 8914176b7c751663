use Rattle.std.proofs.Common.{◌∙◌, rules, arith, false, get_or, ℕ, Bool}
use Rattle.std.proofs.lemmas.Iterator.{items_from_collect, YieldsList-from_map, YieldsList-from_range}
use Rattle.std.proofs.lemmas.Result.{IfOk-weaker}
use Rattle.px_semantics.specs.Bits.{count_boolean}
use Rattle.px_kernels.proofs.CastRows.{bits_by_place}
use Rattle.px_elementwise.proofs.bits.counted_bits.Goals as goal

pub returns : goal.returns
returns c =
    let bits = c.args.bits.now in
    let f : Bool → ℕ = count_boolean c.args.function in
    IfOk-weaker c.collect.result _ _ (λ v e. e ∙ bits_by_place f bits c.len.result c.len.ensures.bits)
    (items_from_collect c.collect.result c.collect.ensures.ran
    (YieldsList-from_map _ (λ i. f (get_or bits i false)) (YieldsList-from_range 0 c.len.result c.len.result c.map.ensures.source (omega arith)) c.map.ensures.closure (λ x r q k. search rules)))
