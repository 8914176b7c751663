use Rattle.std.proofs.Common.{◌+◌, ◌*◌, max}
use Rattle.px_expr.specs.declared.expr.Expr.{size-Expr}
use Rattle.px_texts.proofs.write.+write.Given as goal

-- a call for an input is smaller than one for its node, and a helper's is between the two
abbrev pub decreases-write_text : goal.decreases-write_text
decreases-write_text l = 3 * size-Expr l.expr.now

abbrev pub decreases-write_two : goal.decreases-write_two
decreases-write_two l = 3 * max (size-Expr l.left.now) (size-Expr l.right.now) + 1

abbrev pub decreases-write_all : goal.decreases-write_all
decreases-write_all l = 3 * goal.size-write_all l + 1
