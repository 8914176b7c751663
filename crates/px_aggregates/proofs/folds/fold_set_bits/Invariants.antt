use Rattle.std.proofs.Common.{◌≡◌, [], ◌∷◌, map, take, length}
use Rattle.std.specs.List.{items_where_true}
use Rattle.px_arrays.specs.BitmapOf.{bits_of}
use Rattle.px_aggregates.specs.Folds.{fold_into}
use Rattle.px_aggregates.proofs.folds.fold_set_bits.Given as goal

abbrev pub invariant-loop-i : goal.invariant-loop-i
invariant-loop-i g l = g.A.Integer.integer l.answer ≡ fold_into g.A.Integer.value_type g.O.Operation.meaning (g.A.Integer.integer l.fn.start)
    (items_where_true (take l.i (bits_of (l.word ∷ []) (length (map g.T.Integer.integer l.values)))) (take l.i (map g.T.Integer.integer l.values)))
