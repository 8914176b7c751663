use Rattle.std.proofs.Common.{◌≡◌, take, length}
use Rattle.std.specs.Simd.Lanes.{zip2}
use Rattle.px_semantics.specs.Rows.{stretch}
use Rattle.px_horizontals.specs.Sums.{added}
use Rattle.px_horizontals.proofs.sums.added_integers.Given as goal

abbrev pub invariant-loop-i : goal.invariant-loop-i
invariant-loop-i g l = l.rows ≡ take l.i (zip2 (added l.ignore_nulls g.T.Integer.value_type) l.a (stretch (length l.a) l.b))
