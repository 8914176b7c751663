use Rattle.std.proofs.Common.{◌≡◌, take}
use Rattle.px_expr.proofs.clone.+clone.Given as goal

-- what is copied so far
abbrev pub invariant-clone_exprs-loop-expr : goal.invariant-clone_exprs-loop-expr
invariant-clone_exprs-loop-expr l = l.cloned.entries ≡ take l.expr-index l.expr-items
