use Rattle.std.proofs.Common.{◌≡◌, take}
use Rattle.std.specs.Simd.Lanes.{zip2}
use Rattle.px_semantics.specs.Comparisons.{both_pass}
use Rattle.px_kernels.proofs.row_tests.string_tests.Given as goal

abbrev pub invariant-loop-i : goal.invariant-loop-i
invariant-loop-i g l = l.flags.items ≡ take l.i (zip2 (both_pass g.F.StringTest.meaning) l.a l.b)
