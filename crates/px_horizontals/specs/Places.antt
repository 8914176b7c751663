-- Places in a list of one row, which goes with each row of another.
use Rattle.std.specs.Prelude.{◌==◌, ℕ, cond}

-- place i of a list of so many rows, and its only place where it has one row
abbrev pub place_in : ℕ → ℕ → ℕ
place_in len i = cond (len == 1) 0 i
