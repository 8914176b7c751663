use Rattle.std.proofs.Common.{◌≡◌, take}
use Rattle.px_semantics.specs.Selections.{select_all}
use Rattle.px_kernels.proofs.selection.select_strings.Given as goal

abbrev pub invariant-loop-i : goal.invariant-loop-i
invariant-loop-i l = l.rows ≡ take l.i (select_all l.mask l.a l.b)
