use Rattle.std.proofs.Common.{◌≡◌, ◌*◌, ◌<◌, ℕ, false, get_or, length}
use Rattle.px_arrays.specs.BitmapOf.{bit_of}
use Rattle.px_arrays.proofs.bitmap.Bitmap.from_bools.Given as goal

abbrev pub invariant-loop-at : goal.invariant-loop-at
invariant-loop-at l = record {
  many : length l.words.items ≡ l.at;
  read : (i : ℕ) → i < 64 * l.at → bit_of l.words.items i ≡ get_or l.bits i false;
}
