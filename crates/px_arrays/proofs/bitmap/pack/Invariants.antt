use Rattle.std.proofs.Common.{◌≡◌, ◌-◌, ◌++◌, map, replicate, take}
use Rattle.std.specs.Int.{from_bool}
use Rattle.px_arrays.proofs.bitmap.pack.Given as goal

abbrev pub invariant-loop-i : goal.invariant-loop-i
invariant-loop-i l = l.bytes ≡ map from_bool (take l.i l.bits) ++ replicate (64 - l.i) 0
