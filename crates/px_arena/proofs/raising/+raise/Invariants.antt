use Rattle.std.proofs.Common.{◌+◌, ◌*◌, take}
use Rattle.px_arena.specs.Denotes.{expr_places}
use Rattle.px_arena.specs.Lowered.{AllStandFor}
use Rattle.px_arena.proofs.Measure.{weight_at, sum_of}
use Rattle.px_arena.proofs.raising.+raise.Given as goal

abbrev pub decreases-raise_expr : goal.decreases-raise_expr
decreases-raise_expr l = 2 * weight_at l.arena.now l.node.0

abbrev pub decreases-raise_boxed : goal.decreases-raise_boxed
decreases-raise_boxed l = 2 * weight_at l.arena.now l.node.0 + 1

abbrev pub decreases-raise_exprs : goal.decreases-raise_exprs
decreases-raise_exprs l = 2 * sum_of (λ n. weight_at l.arena.now n) (expr_places l.places.now.entries) + 1

-- the places so far stand for the expressions
abbrev pub invariant-raise_exprs-loop-place : goal.invariant-raise_exprs-loop-place
invariant-raise_exprs-loop-place l = AllStandFor l.arena (expr_places (take l.place-index l.place-items)) l.exprs.entries
