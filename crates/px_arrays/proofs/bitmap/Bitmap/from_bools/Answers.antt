use Rattle.std.proofs.Common.{◌+◌, ◌*◌, ◌-◌, ◌∙◌, arith, ap, refl, length}
use Rattle.std.proofs.lemmas.List.{length_push}
use Rattle.px_arrays.specs.BitmapOf.{bit_of}
use Rattle.px_arrays.proofs.Bitmaps.{packed_more, part_read, packed_all}
use Rattle.px_arrays.proofs.bitmap.Bitmap.from_bools.Goals as goal

pub loop-at-preserved : goal.loop-at-preserved
loop-at-preserved c =
    let bits = c.args.bits.now in
    let words = c.loop-at.words.items in
    let at = c.loop-at.at in
    let items = c.in_ok-push.ensures.items in
    record {
      many = ap length items ∙ length_push words c.pack.result ∙ ap (λ n. n + 1) c.loop-at.invariant.many;
      read = λ i h. ap (λ ws. bit_of ws i) items
          ∙ packed_more bits words at c.pack.result _ c.loop-at.invariant.many c.loop-at.invariant.read c.pack.ensures
          (λ k p. part_read bits at (at * 64) _ k refl p (ap (λ n. n - at * 64) c.min-end.ensures)) i h;
    }

pub invariant_of-result : goal.invariant_of-result
invariant_of-result c =
    let bits = c.args.bits.now in
    (packed_all bits c.loop-at.words.items (length bits) c.loop-at.at refl (omega arith) c.loop-at.invariant.many c.requires c.loop-at.invariant.read).0

pub returns : goal.returns
returns c =
    let bits = c.args.bits.now in
    (packed_all bits c.loop-at.words.items (length bits) c.loop-at.at refl (omega arith) c.loop-at.invariant.many c.requires c.loop-at.invariant.read).1
