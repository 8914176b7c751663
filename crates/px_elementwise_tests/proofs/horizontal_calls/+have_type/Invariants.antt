use Rattle.std.proofs.Common.{length, IsTrue, ◌≡◌, ℕ, ◌+◌, ◌-◌, ◌*◌, ◌<◌, ◌≤◌}
use Rattle.px_horizontals.specs.Inputs.{HaveType, values_of_columns}
use Rattle.px_elementwise_tests.proofs.horizontal_calls.+have_type.Given as goal

-- proposed from what the function passes where it calls itself
abbrev pub decreases-have_type : goal.decreases-have_type
decreases-have_type l = length l.columns.now
