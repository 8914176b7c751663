use Rattle.std.proofs.Common.{take}
use Rattle.px_arena.specs.Denotes.{DenoteAll, IsGrown}
use Rattle.px_plan.specs.Optimized.{trees_of}
use Rattle.px_rules.specs.Plan.{places}
use Rattle.px_plan.proofs.lowering.lower_all.Given as goal

-- the expressions so far have their places
abbrev pub invariant-loop-one : goal.invariant-loop-one
invariant-loop-one l =
    IsGrown l.fn.arena l.arena × DenoteAll l.arena (places l.roots.entries) (trees_of (take l.one-index l.checked))
