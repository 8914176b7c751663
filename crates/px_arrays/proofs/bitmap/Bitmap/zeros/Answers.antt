use Rattle.std.proofs.Common.{◌≡◌, ◌+◌, ◌*◌, ◌∙◌, arith, ap, refl, count_by, not, take}
use Rattle.std.proofs.lemmas.List.{get_or_read}
use Rattle.px_arrays.specs.BitmapOf.{bits_of}
use Rattle.px_arrays.proofs.Counts.{part_ones, ones_few, zeros_left}
use Rattle.px_arrays.proofs.bitmap.Bitmap.zeros.Goals as goal

counted : (c : goal.After-set_bits-ones) → c.loop-i.ones + c.set_bits-ones.result ≡ count_by (λ b. b) (take (64 * (c.loop-i.i + 1)) (bits_of c.self.inside.words.items c.self.inside.len))
counted c =
    let words = c.self.inside.words.items in
    let word = c.index.result.now in
    ap (λ k. k + c.set_bits-ones.result) c.loop-i.invariant
    ∙ ap (λ k. count_by (λ b. b) (take (64 * c.loop-i.i) (bits_of words c.self.inside.len)) + k) c.set_bits-ones.ensures.ones
    ∙ part_ones words c.self.inside.len c.loop-i.i word c.self.invariant (get_or_read words c.loop-i.i word (omega arith) c.index.ensures 0) c.set_bits-ones.ensures.below_limit

pub loop-i-init : goal.loop-i-init
loop-i-init c = refl

pub overflow_add-ones : goal.overflow_add-ones
overflow_add-ones c = record { fits = omega (arith, counted c, ones_few c.self.inside.words.items c.self.inside.len (64 * (c.loop-i.i + 1)), c.self.invariant.below_limit) }

pub loop-i-preserved : goal.loop-i-preserved
loop-i-preserved c = counted c

pub overflow_sub-result : goal.overflow_sub-result
overflow_sub-result c = omega (arith, c.loop-i.invariant, ones_few c.self.inside.words.items c.self.inside.len (64 * c.loop-i.i))

pub returns-clause-count : goal.returns-clause-count
returns-clause-count c = zeros_left c.self.inside.words.items c.self.inside.len c.loop-i.i c.loop-i.ones c.self.invariant (omega arith) c.loop-i.invariant ∙ ap (λ l. count_by not l) c.self.view_is
