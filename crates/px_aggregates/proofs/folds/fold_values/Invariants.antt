use Rattle.std.proofs.Common.{◌≡◌, map, take}
use Rattle.px_aggregates.specs.Folds.{fold_into}
use Rattle.px_aggregates.proofs.folds.fold_values.Given as goal

abbrev pub invariant-loop-i : goal.invariant-loop-i
invariant-loop-i g l = g.A.Integer.integer l.answer ≡ fold_into g.A.Integer.value_type g.O.Operation.meaning (g.A.Integer.integer l.fn.start) (take l.i (map g.T.Integer.integer l.values))
