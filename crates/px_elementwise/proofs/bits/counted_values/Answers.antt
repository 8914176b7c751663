use Rattle.std.proofs.Common.{◌≡◌, ◌∙◌, rules, ℕ, ℤ, pos}
use Rattle.std.proofs.lemmas.Iterator.{YieldsList-from_map_by, YieldsList-from_slice}
use Rattle.std.proofs.lemmas.Iterator.Consumers.{YieldsList-at, map_from_collect}
use Rattle.px_types.specs.Integers.{into, InRange}
use Rattle.px_types.specs.declared.value_type.ValueType.TheVariants.{UInt32}
use Rattle.px_semantics.specs.Bits.{count_integer}
use Rattle.px_semantics.proofs.CastLemmas.{into_keeps}
use Rattle.px_arrays.proofs.Bitmaps.{maps}
use Rattle.px_elementwise.proofs.bits.counted_values.Goals as goal

pub returns-clause-values : goal.returns-clause-values
returns-clause-values g c =
    let n = g.T.Integer.integer in
    let f : ℤ → ℤ = λ z. pos (count_integer c.args.function g.T.Integer.value_type z) in
    let w : ℕ → ℤ = λ x. pos x in
    rw (maps n f c.args.values.now)
    (map_from_collect c.collect.result c.collect.ensures.ran
    (YieldsList-from_map_by _ w (λ x. f (n x)) (YieldsList-at c.map.ensures.source (YieldsList-from_slice c.args.values.now c.iter.ensures.rest)) c.map.ensures.closure (λ x r q k. search rules)))

pub returns-clause-inside : goal.returns-clause-inside
returns-clause-inside g c =
    let n = g.T.Integer.integer in
    let f : ℤ → ℤ = λ z. pos (count_integer c.args.function g.T.Integer.value_type z) in
    let w : ℕ → ℤ = λ x. into UInt32 (pos x) in
    rw (maps n f c.args.values.now)
    (map_from_collect c.collect.result c.collect.ensures.ran
    (YieldsList-from_map_by _ w (λ x. f (n x)) (YieldsList-at c.map.ensures.source (YieldsList-from_slice c.args.values.now c.iter.ensures.rest)) c.map.ensures.closure (λ x r q k.
    let same : pos r ≡ f (n x.now) = search rules in
    let inside : InRange UInt32 (pos r) = search rules in
    (search rules, into_keeps UInt32 (pos r) inside ∙ same))))
