use Rattle.std.proofs.Common.{◌≡◌, ◌∙◌, ◌&&◌, ◌<◌, ◌+◌, ap, sym, arith, length, get_or, drop, suc, not, false}
use Rattle.std.specs.Cmp.Lexicographic.{same_text}
use Rattle.px_arrays.specs.BitmapOf.{bit_of}
use Rattle.px_kernels.specs.Casting.{any_bit_lost}
use Rattle.px_kernels.proofs.CastRows.{same_bits, next_bit, kept_first, kept_second}
use Rattle.px_kernels.proofs.casts.loses_bit.Goals.{else-get-via-then-get+else-not-get, else-get-via-else-get}
use Rattle.px_kernels.proofs.casts.loses_bit.Goals as goal

pub returns-then-eq : goal.returns-then-eq
returns-then-eq c =
    let same = same_text c.words.result.now c.words-2.result.now (sym c.if-eq.true ∙ c.eq.ensures) in
    same_bits c.args.given.now c.args.kept.now (λ i. sym (c.words.ensures.bits i) ∙ ap (λ l. bit_of l i) same ∙ c.words-2.ensures.bits i)

pub loop-i-preserved : goal.loop-i-preserved
loop-i-preserved c =
    let xs = c.args.given.now in
    let ys = c.args.kept.now in
    let i = c.loop-i.i in
    let below : i < length xs = omega (arith, c.loop-i-test.true, c.len-i-end.ensures.bits) in
    let one : i + 1 ≡ suc i = omega arith in
    let none : get_or xs i false && not (get_or ys i false) ≡ false = elim c.else-get.branch [
      | else-get-via-then-get+else-not-get w ↦ kept_second (get_or xs i false) (get_or ys i false) (sym w.get-then-get.ensures ∙ w.if-not-get.false)
      | else-get-via-else-get w ↦ kept_first (get_or xs i false) (get_or ys i false) (sym c.get.ensures ∙ w.if-get.false)
    ] in
    ap (λ n. any_bit_lost (drop n xs) (drop n ys)) one ∙ next_bit xs ys i c.requires below none ∙ c.loop-i.invariant
