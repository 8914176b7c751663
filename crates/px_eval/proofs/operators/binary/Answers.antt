use Rattle.std.proofs.Common.{◌≡◌, Some, sym, subst}
use Rattle.px_types.specs.declared.operator.Operator.{Operator}
use Rattle.px_meaning.specs.Mean.{group_rows}
use Rattle.px_meaning.specs.Signatures.{group_of, group_type}
use Rattle.px_base.specs.declared.error.PlanError.TheVariants.{ShapeMismatch}
use Rattle.px_column.specs.Buffers.{values_of}
use Rattle.px_base.specs.Answer.{GivesOr}
use Rattle.px_base.proofs.Answers.{gives_as}
use Rattle.px_eval.proofs.Single.{logical_and, logical_or}
use Rattle.px_eval.proofs.operators.binary.Goals as goal

pub returns-in-LogicalAnd : goal.returns-in-LogicalAnd
returns-in-LogicalAnd c =
    let a = values_of c.args.a.now in
    let b = values_of c.args.b.now in
    let t = subst (λ (z : Operator). group_type (group_of z) a.value_type ≡ Some c.requires.value_type) c.in-LogicalAnd.is c.requires.gives in
    subst (λ (z : Operator). GivesOr ShapeMismatch values_of c.logic-in-LogicalAnd.result (group_rows (group_of z) z a b)) (sym c.in-LogicalAnd.is)
    (gives_as ShapeMismatch values_of c.logic-in-LogicalAnd.result (logical_and a b c.requires.value_type t) c.logic-in-LogicalAnd.ensures.rows)

pub returns-in-LogicalOr : goal.returns-in-LogicalOr
returns-in-LogicalOr c =
    let a = values_of c.args.a.now in
    let b = values_of c.args.b.now in
    let t = subst (λ (z : Operator). group_type (group_of z) a.value_type ≡ Some c.requires.value_type) c.in-LogicalOr.is c.requires.gives in
    subst (λ (z : Operator). GivesOr ShapeMismatch values_of c.logic-in-LogicalOr.result (group_rows (group_of z) z a b)) (sym c.in-LogicalOr.is)
    (gives_as ShapeMismatch values_of c.logic-in-LogicalOr.result (logical_or a b c.requires.value_type t) c.logic-in-LogicalOr.ensures.rows)
