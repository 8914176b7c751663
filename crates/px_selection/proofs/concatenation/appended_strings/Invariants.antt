use Rattle.std.proofs.Common.{◌≡◌, ◌++◌, take}
use Rattle.px_selection.proofs.concatenation.appended_strings.Given as goal

abbrev pub invariant-loop-i : goal.invariant-loop-i
invariant-loop-i l = l.rows ≡ take l.i l.a

abbrev pub invariant-loop-j : goal.invariant-loop-j
invariant-loop-j l = l.rows ≡ l.a ++ take l.j l.b
