use Rattle.std.proofs.Common.{◌&&◌, ◌||◌, bit_and, bit_or}
use Rattle.px_arrays.proofs.Bitmaps.{have_bits, validity_zipped, bitwise_and, bitwise_or}
use Rattle.px_arrays.proofs.bitmap.Bitmap.or_validity.Goals as goal

pub invariant_of-result : goal.invariant_of-result
invariant_of-result c =
    let a = have_bits c.a.inside.words.items c.a.inside.len c.args.a.now c.a.invariant c.a.view_is in
    let p = have_bits c.p.inside.words.items c.p.inside.len c.args.p.now c.p.invariant c.p.view_is in
    let b = have_bits c.b.inside.words.items c.b.inside.len c.args.b.now c.b.invariant c.b.view_is in
    let q = have_bits c.q.inside.words.items c.q.inside.len c.args.q.now c.q.invariant c.q.view_is in
    (validity_zipped bit_or bit_and (λ x y. x || y) (λ x y. x && y) bitwise_or bitwise_and c.in_ok-words.words.items a p b q c.requires.same_length c.requires.first c.requires.second
    (rw (← c.as_slice.ensures.value, ← c.as_slice-2.ensures.value, ← c.as_slice-3.ensures.value, ← c.as_slice-4.ensures.value) c.in_ok-words.ensures)).inv

pub returns : goal.returns
returns c =
    let a = have_bits c.a.inside.words.items c.a.inside.len c.args.a.now c.a.invariant c.a.view_is in
    let p = have_bits c.p.inside.words.items c.p.inside.len c.args.p.now c.p.invariant c.p.view_is in
    let b = have_bits c.b.inside.words.items c.b.inside.len c.args.b.now c.b.invariant c.b.view_is in
    let q = have_bits c.q.inside.words.items c.q.inside.len c.args.q.now c.q.invariant c.q.view_is in
    (validity_zipped bit_or bit_and (λ x y. x || y) (λ x y. x && y) bitwise_or bitwise_and c.in_ok-words.words.items a p b q c.requires.same_length c.requires.first c.requires.second
    (rw (← c.as_slice.ensures.value, ← c.as_slice-2.ensures.value, ← c.as_slice-3.ensures.value, ← c.as_slice-4.ensures.value) c.in_ok-words.ensures)).bits
