use Rattle.std.proofs.Common.{map, None, Some, sym, ap, ◌∙◌, arith}
use Rattle.serde_json.specs.View.{view}
use Rattle.px_expr.specs.Tree.{tree_of}
use Rattle.px_forms.proofs.Exprs.{written_step, function_written, function_unwritten, function_form}
use Rattle.px_forms.proofs.Trees.{size_of_item}
use Rattle.px_forms.proofs.write.+writing.Goals as goal

pub values_after-expr_value-requires : goal.values_after-expr_value-requires
values_after-expr_value-requires t c = (omega (arith, size_of_item c.args.exprs.now c.loop-expr.expr-index c.expr-item.result c.loop-expr-test.true c.expr-item.is), tt)

pub values_after-loop-expr-preserved : goal.values_after-loop-expr-preserved
values_after-loop-expr-preserved t c =
    let writes = rw c.in-Some.is at c.in_ok-value.ensures in
    written_step c.args.exprs.now c.loop-expr.expr-index c.expr-item.result _ c.loop-expr.values.items c.in-Some.value _ c.loop-expr-test.true c.expr-item.is writes c.in_ok-push.ensures.items c.loop-expr.invariant

pub function_value-returns-in_default : goal.function_value-returns-in_default
function_value-returns-in_default t c = function_unwritten c.args.function.now (map tree_of c.args.inputs.now) (sym c.evaluated.ensures ∙ c.in_default.is)

pub function_value-returns-in_default-2 : goal.function_value-returns-in_default-2
function_value-returns-in_default-2 t c =
    function_written c.in-Some.evaluated (map tree_of c.args.inputs.now) _ None c.in_ok-items.ensures (rw c.in_default-2.is at c.in_ok-items-2.ensures)
    ∙ function_form c.args.function.now c.in-Some.evaluated (map tree_of c.args.inputs.now) (sym c.evaluated.ensures ∙ c.in-Some.is)

pub function_value-returns : goal.function_value-returns
function_value-returns t c =
    ap Some c.in_ok-function_value.ensures
    ∙ (function_written c.in-Some.evaluated (map tree_of c.args.inputs.now) _ (Some (map view c.in-Some-2.items.items)) c.in_ok-items.ensures (rw c.in-Some-2.is at c.in_ok-items-2.ensures)
    ∙ function_form c.args.function.now c.in-Some.evaluated (map tree_of c.args.inputs.now) (sym c.evaluated.ensures ∙ c.in-Some.is))
