use Rattle.std.proofs.Common.{ℕ, ◌<◌}
use Rattle.px_plan_tests.proofs.plans.+write_node.Given as goal

abbrev pub decreases-write_node : goal.decreases-write_node
decreases-write_node l = l.depth

abbrev pub invariant-loop-i : goal.invariant-loop-i
invariant-loop-i l = 0 < l.depth
