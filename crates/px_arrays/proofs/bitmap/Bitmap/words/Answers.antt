use Rattle.std.proofs.Common.{◌∙◌, ◌+◌, ◌/◌, sym, ap, false, length, get_or}
use Rattle.px_arrays.specs.BitmapOf.{bit_of}
use Rattle.px_arrays.proofs.Bitmaps.{each_bit, length-bits_of}
use Rattle.px_arrays.proofs.bitmap.Bitmap.words.Goals as goal

pub returns-clause-whole : goal.returns-clause-whole
returns-clause-whole c =
    let s = c.self.inside in
    ap length c.as_slice.ensures.value ∙ c.self.invariant.whole ∙ ap (λ k. (k + 63) / 64) (sym (length-bits_of s.words.items s.len) ∙ ap length c.self.view_is)

pub returns-clause-bits : goal.returns-clause-bits
returns-clause-bits c = λ i.
    let s = c.self.inside in
    ap (λ ws. bit_of ws i) c.as_slice.ensures.value ∙ each_bit s.words.items s.len i c.self.invariant ∙ ap (λ l. get_or l i false) c.self.view_is
