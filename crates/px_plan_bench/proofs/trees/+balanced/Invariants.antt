use Rattle.px_plan_bench.proofs.trees.+balanced.Given as goal

abbrev pub decreases-balanced : goal.decreases-balanced
decreases-balanced l = l.count
