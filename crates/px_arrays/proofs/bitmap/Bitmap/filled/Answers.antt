use Rattle.std.proofs.Common.{◌+◌, ◌/◌, ◌∙◌, arith, ap, length, replicate}
use Rattle.std.proofs.lemmas.List.{length-replicate}
use Rattle.px_arrays.specs.BitmapOf.{bit_of}
use Rattle.px_arrays.proofs.Bitmaps.{packed_all}
use Rattle.px_arrays.proofs.Counts.{filled_items, filled_length, filled_bit}
use Rattle.px_arrays.proofs.bitmap.Bitmap.filled.Goals as goal

pub invariant_of-result : goal.invariant_of-result
invariant_of-result c =
    let n = c.args.len in
    let all = c.resize-2.new.self.items in
    let items = filled_items (n / 64) ((n + 63) / 64) _ _ c.same_bits.result c.same_bits-2.result _ _ all c.in_ok-words.ensures.items c.in_ok-words.ensures.len c.in_ok-resize.ensures.len (omega arith) c.in_ok-resize.ensures.items c.in_ok-resize-2.ensures.items in
    (packed_all (replicate n c.args.bit) all n ((n + 63) / 64) (length-replicate n c.args.bit) (omega arith) (ap length items ∙ filled_length n c.same_bits.result c.same_bits-2.result) c.requires
    (λ i h. ap (λ ws. bit_of ws i) items ∙ filled_bit n c.args.bit c.same_bits.result c.same_bits-2.result c.same_bits.ensures c.same_bits-2.ensures i h)).0

pub returns : goal.returns
returns c =
    let n = c.args.len in
    let all = c.resize-2.new.self.items in
    let items = filled_items (n / 64) ((n + 63) / 64) _ _ c.same_bits.result c.same_bits-2.result _ _ all c.in_ok-words.ensures.items c.in_ok-words.ensures.len c.in_ok-resize.ensures.len (omega arith) c.in_ok-resize.ensures.items c.in_ok-resize-2.ensures.items in
    (packed_all (replicate n c.args.bit) all n ((n + 63) / 64) (length-replicate n c.args.bit) (omega arith) (ap length items ∙ filled_length n c.same_bits.result c.same_bits-2.result) c.requires
    (λ i h. ap (λ ws. bit_of ws i) items ∙ filled_bit n c.args.bit c.same_bits.result c.same_bits-2.result c.same_bits.ensures c.same_bits-2.ensures i h)).1
