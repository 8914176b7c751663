use Rattle.std.proofs.Common.{◌≡◌, map, drop, take, ◌+◌, ◌*◌, max}
use Rattle.px_expr.specs.declared.expr.Expr.{size-Expr}
use Rattle.px_expr.specs.declared.expr.AggExpr.{size-AggExpr}
use Rattle.px_expr.specs.Tree.{tree_of}
use Rattle.px_expr.specs.Options.{options_of}
use Rattle.px_expr.specs.Plan.{catalog_of}
use Rattle.px_coercion.specs.Found.{seen, options_in}
use Rattle.px_check.specs.Inputs.{found_all, found_after}
use Rattle.px_check.proofs.check.+check.Given as goal

-- the answer is the inputs so far, and then those that are left
abbrev pub invariant-check_inputs-loop-expr : goal.invariant-check_inputs-loop-expr
invariant-check_inputs-loop-expr g l = record {
  answer : found_all (catalog_of l.schema (g.K.Kernels.definitions l.kernels)) (map tree_of l.exprs)
      ≡ found_after (catalog_of l.schema (g.K.Kernels.definitions l.kernels)) (map seen l.inputs.items) (map tree_of (drop l.expr-index l.exprs));
  kept : map options_in l.inputs.items ≡ map options_of (take l.expr-index l.exprs);
}

-- a call for an input is smaller than one for its node, and a helper's is between the two
abbrev pub decreases-check_found : goal.decreases-check_found
decreases-check_found g l = 6 * size-Expr l.expr.now + 1

abbrev pub decreases-check_alias : goal.decreases-check_alias
decreases-check_alias g l = 6 * size-Expr l.input.now + 2

abbrev pub decreases-check_cast : goal.decreases-check_cast
decreases-check_cast g l = 6 * size-Expr l.input.now + 2

abbrev pub decreases-check_two : goal.decreases-check_two
decreases-check_two g l = 6 * max (size-Expr l.left.now) (size-Expr l.right.now) + 2

abbrev pub decreases-check_binary : goal.decreases-check_binary
decreases-check_binary g l = 6 * max (size-Expr l.left.now) (size-Expr l.right.now) + 3

abbrev pub decreases-check_branches : goal.decreases-check_branches
decreases-check_branches g l = 6 * max (size-Expr l.truthy.now) (size-Expr l.falsy.now) + 3

abbrev pub decreases-check_ternary : goal.decreases-check_ternary
decreases-check_ternary g l = 6 * max (size-Expr l.predicate.now) (max (size-Expr l.truthy.now) (size-Expr l.falsy.now)) + 4

abbrev pub decreases-refuse : goal.decreases-refuse
decreases-refuse g l = 6 * size-Expr l.input.now + 2

abbrev pub decreases-refuse_two : goal.decreases-refuse_two
decreases-refuse_two g l = 6 * max (size-Expr l.input.now) (size-Expr l.other.now) + 3

abbrev pub decreases-refuse_three : goal.decreases-refuse_three
decreases-refuse_three g l = 6 * max (size-Expr l.input.now) (max (size-Expr l.other.now) (size-Expr l.last.now)) + 4

abbrev pub decreases-refuse_agg : goal.decreases-refuse_agg
decreases-refuse_agg g l = 6 * size-AggExpr l.agg.now

abbrev pub decreases-check_inputs : goal.decreases-check_inputs
decreases-check_inputs g l = 6 * goal.size-check_inputs g l + 2

abbrev pub decreases-refuse_all : goal.decreases-refuse_all
decreases-refuse_all g l = 6 * goal.size-refuse_all g l + 3

abbrev pub decreases-check_function : goal.decreases-check_function
decreases-check_function g l = 6 * goal.size-check_function g l + 3
