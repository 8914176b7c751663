use Rattle.std.proofs.Common.{◌≡◌, ◌∙◌, sym, ap, length, replicate, false}
use Rattle.std.proofs.lemmas.Result.{IfOk-weaker}
use Rattle.px_arrays.proofs.Bitmaps.{and_all, and_none, length-bits_of}
use Rattle.px_arrays.proofs.bitmap.Bitmap.and_bit.Goals as goal

pub returns-then-bit : goal.returns-then-bit
returns-then-bit c = IfOk-weaker c.try_clone.result _ _ (λ b e. e ∙ and_all c.args.self.now c.args.bit c.if-bit.true) c.try_clone.ensures

pub returns-else-bit : goal.returns-else-bit
returns-else-bit c =
    let s = c.self.inside in
    let same_length : s.len ≡ length c.args.self.now = sym (length-bits_of s.words.items s.len) ∙ ap length c.self.view_is in
    IfOk-weaker c.filled.result _ _ (λ b e. e ∙ ap (λ n. replicate n false) same_length ∙ and_none c.args.self.now c.args.bit c.if-bit.false) c.filled.ensures
