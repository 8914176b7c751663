use Rattle.std.proofs.Common.{ap}
use Rattle.px_base.proofs.Answers.{gives_as}
use Rattle.px_base.specs.declared.error.PlanError.TheVariants.{ShapeMismatch}
use Rattle.px_types.specs.declared.operator.Operator.TheVariants as op
use Rattle.px_semantics.specs.Logic.{or_row, logic_row}
use Rattle.px_semantics.specs.Rows.{elementwise}
use Rattle.px_column.specs.ColumnOf.{type_of, rows_of}
use Rattle.px_horizontals.proofs.Logic.{boolean_is, rows_given}
use Rattle.px_horizontals.proofs.horizontals.AnyTrueFold.combine.Goals as goal

pub returns-clause-rows : goal.returns-clause-rows
returns-clause-rows c =
    let xs = rows_of c.args.total.now in
    let ys = rows_of c.args.input.now in
    rows_given or_row xs ys c.logic.result c.requires.long
    (gives_as ShapeMismatch rows_of c.logic.result (ap (λ j. elementwise (logic_row op.Or j) xs ys) (boolean_is (type_of c.args.total.now) c.requires.takes.0)) c.logic.ensures.rows)
