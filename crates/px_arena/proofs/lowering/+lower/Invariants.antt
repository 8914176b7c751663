use Rattle.std.proofs.Common.{◌+◌, ◌*◌, max, take}
use Rattle.px_expr.specs.declared.expr.Expr.{size-Expr}
use Rattle.px_expr.specs.declared.expr.AggExpr.{size-AggExpr}
use Rattle.px_arena.specs.Denotes.{IsGrown, expr_places}
use Rattle.px_arena.specs.Lowered.{AllStandFor}
use Rattle.px_arena.proofs.lowering.+lower.Given as goal

-- the expressions so far have their places
abbrev pub invariant-lower_exprs-loop-expr : goal.invariant-lower_exprs-loop-expr
invariant-lower_exprs-loop-expr l =
    IsGrown l.fn.arena l.arena × AllStandFor l.arena (expr_places l.places.entries) (take l.expr-index l.expr-items)

abbrev pub decreases-lower_expr : goal.decreases-lower_expr
decreases-lower_expr l = 4 * size-Expr l.expr.now + 1

abbrev pub decreases-lower_agg : goal.decreases-lower_agg
decreases-lower_agg l = 4 * size-AggExpr l.agg.now + 1

abbrev pub decreases-lower_two : goal.decreases-lower_two
decreases-lower_two l = 4 * max (size-Expr l.left.now) (size-Expr l.right.now) + 2

abbrev pub decreases-lower_three : goal.decreases-lower_three
decreases-lower_three l = 4 * max (size-Expr l.first.now) (max (size-Expr l.second.now) (size-Expr l.third.now)) + 2

abbrev pub decreases-lower_exprs : goal.decreases-lower_exprs
decreases-lower_exprs l = 4 * goal.size-lower_exprs l + 2
