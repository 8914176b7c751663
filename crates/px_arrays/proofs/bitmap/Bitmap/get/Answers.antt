use Rattle.std.proofs.Common.{◌<◌, ◌/◌, ◌≡◌, ◌∙◌, sym, ap, arith, false, length, get_or}
use Rattle.std.proofs.lemmas.List.{get_or_read}
use Rattle.px_arrays.proofs.Bitmaps.{length-bits_of, get_or-bits_of, bit_read}
use Rattle.px_arrays.proofs.bitmap.Bitmap.get.Goals as goal

pub index-requires : goal.index-requires
index-requires c =
    let s = c.self.inside in
    let e : s.len ≡ length c.args.self.now = sym (length-bits_of s.words.items s.len) ∙ ap length c.self.view_is in
    omega (arith, c.self.invariant.whole, s.words.ok)

pub returns : goal.returns
returns c =
    let s = c.self.inside in
    let e : s.len ≡ length c.args.self.now = sym (length-bits_of s.words.items s.len) ∙ ap length c.self.view_is in
    let within : c.args.i < s.len = omega arith in
    let place : c.args.i / 64 < length s.words.items = omega (arith, c.self.invariant.whole) in
    bit_read s.words.items c.args.i c.index.result.now (get_or_read s.words.items _ _ place c.index.ensures 0)
    ∙ sym (get_or-bits_of s.words.items s.len c.args.i within)
    ∙ ap (λ l. get_or l c.args.i false) c.self.view_is
