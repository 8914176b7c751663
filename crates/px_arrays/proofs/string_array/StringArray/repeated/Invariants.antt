use Rattle.std.proofs.Common.{◌≡◌, replicate, get_or, None}
use Rattle.px_arrays.proofs.string_array.StringArray.repeated.Given as goal

abbrev pub invariant-loop : goal.invariant-loop
invariant-loop l = l.rows ≡ replicate l.counter (get_or l.self 0 None)
