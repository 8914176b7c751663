use Rattle.px_expr.specs.Tree.{tree_of}
use Rattle.px_forms.proofs.NoFloats.{written_plain}
use Rattle.px_forms.proofs.RoundTrip.{written_again}
use Rattle.px_forms.proofs.write.value_of_expr.Goals as goal

pub returns-clause-plain : goal.returns-clause-plain
returns-clause-plain c = written_plain (tree_of c.args.expr.now) c.expr_value.result c.expr_value.ensures

pub returns-clause-again : goal.returns-clause-again
returns-clause-again c = written_again (tree_of c.args.expr.now) c.expr_value.result c.expr_value.ensures
