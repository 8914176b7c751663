use Rattle.px_arena.proofs.Measure.{weight_at}
use Rattle.px_rules.proofs.output_name.+name_at.Given as goal

abbrev pub decreases-name_at : goal.decreases-name_at
decreases-name_at l = weight_at l.arena.now l.node.0
