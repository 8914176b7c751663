use Rattle.std.proofs.Common.{◌&&◌, cond, not, bit_and, bit_xor}
use Rattle.px_arrays.proofs.Bitmaps.{have_bits, three_zipped, bitwise_and, bitwise_xor}
use Rattle.px_arrays.proofs.bitmap.Bitmap.masked_xor.Goals as goal

pub invariant_of-result : goal.invariant_of-result
invariant_of-result c =
    let mine = have_bits c.self.inside.words.items c.self.inside.len c.args.self.now c.self.invariant c.self.view_is in
    let others = have_bits c.other.inside.words.items c.other.inside.len c.args.other.now c.other.invariant c.other.view_is in
    let mask = have_bits c.mask.inside.words.items c.mask.inside.len c.args.mask.now c.mask.invariant c.mask.view_is in
    (three_zipped bit_and bit_xor (λ x y. x && y) (λ x y. cond x (not y) y) bitwise_and bitwise_xor c.in_ok-words.words.items mine others mask c.requires.same_length c.requires.mask
    (rw (← c.as_slice.ensures.value, ← c.as_slice-2.ensures.value, ← c.as_slice-3.ensures.value) c.in_ok-words.ensures)).inv

pub returns : goal.returns
returns c =
    let mine = have_bits c.self.inside.words.items c.self.inside.len c.args.self.now c.self.invariant c.self.view_is in
    let others = have_bits c.other.inside.words.items c.other.inside.len c.args.other.now c.other.invariant c.other.view_is in
    let mask = have_bits c.mask.inside.words.items c.mask.inside.len c.args.mask.now c.mask.invariant c.mask.view_is in
    (three_zipped bit_and bit_xor (λ x y. x && y) (λ x y. cond x (not y) y) bitwise_and bitwise_xor c.in_ok-words.words.items mine others mask c.requires.same_length c.requires.mask
    (rw (← c.as_slice.ensures.value, ← c.as_slice-2.ensures.value, ← c.as_slice-3.ensures.value) c.in_ok-words.ensures)).bits
