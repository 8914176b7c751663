use Rattle.std.proofs.Common.{◌≡◌, drop}
use Rattle.px_kernels.specs.Casting.{any_bit_lost}
use Rattle.px_kernels.proofs.casts.loses_bit.Given as goal

abbrev pub invariant-loop-i : goal.invariant-loop-i
invariant-loop-i l = any_bit_lost (drop l.i l.given) (drop l.i l.kept) ≡ any_bit_lost l.given l.kept
