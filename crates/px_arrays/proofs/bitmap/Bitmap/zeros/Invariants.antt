use Rattle.std.proofs.Common.{◌≡◌, ◌*◌, take, count_by}
use Rattle.px_arrays.specs.BitmapOf.{bits_of}
use Rattle.px_arrays.proofs.bitmap.Bitmap.zeros.Given as goal

abbrev pub invariant-loop-i : goal.invariant-loop-i
invariant-loop-i l = l.ones ≡ count_by (λ b. b) (take (64 * l.i) (bits_of l.self-inside.words.items l.self-inside.len))
