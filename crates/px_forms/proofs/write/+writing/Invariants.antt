use Rattle.std.proofs.Common.{◌≡◌, ◌+◌, ◌*◌, ◌++◌, map, option_map, drop}
use Rattle.serde_json.specs.View.{view}
use Rattle.px_expr.specs.Tree.{tree_of}
use Rattle.px_forms.specs.Written.{all_data}
use Rattle.px_forms.proofs.Trees.{size_of, sizes_of}
use Rattle.px_forms.proofs.write.+writing.Given as goal

abbrev pub decreases-expr_value : goal.decreases-expr_value
decreases-expr_value l = 4 * size_of (tree_of l.expr.now)

abbrev pub decreases-alias_value : goal.decreases-alias_value
decreases-alias_value l = 4 * size_of (tree_of l.input.now) + 1

abbrev pub decreases-binary_value : goal.decreases-binary_value
decreases-binary_value l = 4 * (size_of (tree_of l.left.now) + size_of (tree_of l.right.now)) + 2

abbrev pub decreases-operated_value : goal.decreases-operated_value
decreases-operated_value l = 4 * size_of (tree_of l.right.now) + 1

abbrev pub decreases-cast_value : goal.decreases-cast_value
decreases-cast_value l = 4 * size_of (tree_of l.input.now) + 1

abbrev pub decreases-ternary_value : goal.decreases-ternary_value
decreases-ternary_value l =
    4 * (size_of (tree_of l.predicate.now) + size_of (tree_of l.truthy.now) + size_of (tree_of l.falsy.now)) + 3

abbrev pub decreases-choice_value : goal.decreases-choice_value
decreases-choice_value l = 4 * (size_of (tree_of l.truthy.now) + size_of (tree_of l.falsy.now)) + 2

abbrev pub decreases-choice_between : goal.decreases-choice_between
decreases-choice_between l = 4 * size_of (tree_of l.falsy.now) + 1

abbrev pub decreases-function_value : goal.decreases-function_value
decreases-function_value l = 4 * sizes_of (map tree_of l.inputs.now) + 2

abbrev pub decreases-values_after : goal.decreases-values_after
decreases-values_after l = 4 * sizes_of (map tree_of l.exprs.now) + 1

-- all values are those that are there, before those of the expressions that are left
abbrev pub invariant-values_after-loop-expr : goal.invariant-values_after-loop-expr
invariant-values_after-loop-expr l =
    option_map (λ ds. map view l.fn.values.items ++ ds) (all_data (map tree_of l.exprs)) ≡ option_map (λ ds. map view l.values.items ++ ds) (all_data (map tree_of (drop l.expr-index l.exprs)))
