use Rattle.std.proofs.Common.{◌≡◌, ◌∙◌, sym, ap, length, true, not, cond}
use Rattle.std.specs.Simd.Lanes.{zip2}
use Rattle.std.proofs.lemmas.List.{length-replicate}
use Rattle.std.proofs.lemmas.Result.{IfOk-weaker}
use Rattle.std.proofs.lemmas.Simd.{zip2_splat_left}
use Rattle.px_arrays.proofs.Bitmaps.{length-bits_of}
use Rattle.px_arrays.proofs.bitmap.Bitmap.not.Goals as goal

pub xor-requires : goal.xor-requires
xor-requires c =
    let s = c.self.inside in
    ap length c.in_ok-all.ensures ∙ length-replicate s.len true ∙ sym (length-bits_of s.words.items s.len) ∙ ap length c.self.view_is

pub returns : goal.returns
returns c =
    let s = c.self.inside in
    let same_length : s.len ≡ length c.args.self.now = sym (length-bits_of s.words.items s.len) ∙ ap length c.self.view_is in
    IfOk-weaker c.xor.result _ _
    (λ b e. e ∙ ap (λ l. zip2 (λ x y. cond x (not y) y) l c.args.self.now) c.in_ok-all.ensures ∙ zip2_splat_left (λ x y. cond x (not y) y) true s.len c.args.self.now (sym same_length))
    c.xor.ensures
