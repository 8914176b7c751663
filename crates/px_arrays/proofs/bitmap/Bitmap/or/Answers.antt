use Rattle.std.proofs.Common.{◌||◌, bit_or}
use Rattle.px_arrays.proofs.Bitmaps.{have_bits, words_long, zipped, bitwise_or}
use Rattle.px_arrays.proofs.bitmap.Bitmap.or.Goals as goal

pub or_words-requires : goal.or_words-requires
or_words-requires c =
    let mine = have_bits c.self.inside.words.items c.self.inside.len c.args.self.now c.self.invariant c.self.view_is in
    let others = have_bits c.other.inside.words.items c.other.inside.len c.args.other.now c.other.invariant c.other.view_is in
    rw (c.as_slice.ensures.value, c.as_slice-2.ensures.value) (words_long mine others c.requires)

pub invariant_of-result : goal.invariant_of-result
invariant_of-result c =
    let mine = have_bits c.self.inside.words.items c.self.inside.len c.args.self.now c.self.invariant c.self.view_is in
    let others = have_bits c.other.inside.words.items c.other.inside.len c.args.other.now c.other.invariant c.other.view_is in
    (zipped bit_or (λ x y. x || y) bitwise_or c.in_ok-words.words.items mine others c.requires
    (rw (← c.as_slice.ensures.value, ← c.as_slice-2.ensures.value) c.in_ok-words.ensures)).inv

pub returns : goal.returns
returns c =
    let mine = have_bits c.self.inside.words.items c.self.inside.len c.args.self.now c.self.invariant c.self.view_is in
    let others = have_bits c.other.inside.words.items c.other.inside.len c.args.other.now c.other.invariant c.other.view_is in
    (zipped bit_or (λ x y. x || y) bitwise_or c.in_ok-words.words.items mine others c.requires
    (rw (← c.as_slice.ensures.value, ← c.as_slice-2.ensures.value) c.in_ok-words.ensures)).bits
