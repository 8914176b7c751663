use Rattle.std.proofs.Common.{List, map, ap}
use Rattle.serde_json.specs.View.{view}
use Rattle.serde_json.specs.declared.value.Value.{Value}
use Rattle.px_expr.specs.Tree.{tree_of}
use Rattle.px_forms.proofs.Exprs.{written_all}
use Rattle.px_forms.proofs.NoFloats.{all_written_plain}
use Rattle.px_forms.proofs.write.values_of_exprs.Goals as goal

pub returns-clause-values : goal.returns-clause-values
returns-clause-values c =
    written_all (map tree_of c.args.exprs.now) _ c.values_after.result (ap (λ (vs : List Value). map view vs) c.in_ok-values.ensures.items) c.values_after.ensures

pub returns-clause-plain : goal.returns-clause-plain
returns-clause-plain c =
    all_written_plain (map tree_of c.args.exprs.now) c.values_after.result
    (written_all (map tree_of c.args.exprs.now) _ c.values_after.result (ap (λ (vs : List Value). map view vs) c.in_ok-values.ensures.items) c.values_after.ensures)
