use Rattle.std.proofs.Common.{cond, not, bit_xor}
use Rattle.px_arrays.proofs.Bitmaps.{have_bits, words_long, zipped, bitwise_xor}
use Rattle.px_arrays.proofs.bitmap.Bitmap.xor.Goals as goal

pub xor_words-requires : goal.xor_words-requires
xor_words-requires c =
    let mine = have_bits c.self.inside.words.items c.self.inside.len c.args.self.now c.self.invariant c.self.view_is in
    let others = have_bits c.other.inside.words.items c.other.inside.len c.args.other.now c.other.invariant c.other.view_is in
    rw (c.as_slice.ensures.value, c.as_slice-2.ensures.value) (words_long mine others c.requires)

pub invariant_of-result : goal.invariant_of-result
invariant_of-result c =
    let mine = have_bits c.self.inside.words.items c.self.inside.len c.args.self.now c.self.invariant c.self.view_is in
    let others = have_bits c.other.inside.words.items c.other.inside.len c.args.other.now c.other.invariant c.other.view_is in
    (zipped bit_xor (λ x y. cond x (not y) y) bitwise_xor c.in_ok-words.words.items mine others c.requires
    (rw (← c.as_slice.ensures.value, ← c.as_slice-2.ensures.value) c.in_ok-words.ensures)).inv

pub returns : goal.returns
returns c =
    let mine = have_bits c.self.inside.words.items c.self.inside.len c.args.self.now c.self.invariant c.self.view_is in
    let others = have_bits c.other.inside.words.items c.other.inside.len c.args.other.now c.other.invariant c.other.view_is in
    (zipped bit_xor (λ x y. cond x (not y) y) bitwise_xor c.in_ok-words.words.items mine others c.requires
    (rw (← c.as_slice.ensures.value, ← c.as_slice-2.ensures.value) c.in_ok-words.ensures)).bits
