use Rattle.px_rules.specs.Plan.{places}
use Rattle.px_eval.proofs.Fills.{Filled}
use Rattle.px_eval.proofs.filling.fill_all.Given as goal

abbrev pub invariant-loop-position : goal.invariant-loop-position
invariant-loop-position g l = Filled (g.K.Kernels.definitions l.kernels) l.frame l.arena (places l.order.places.items) l.order.needed.items l.position l.table l.initial.steps l.steps
