use Rattle.std.proofs.Common.{◌∙◌, ap, refl}
use Rattle.px_base.proofs.Answers.{gives_as}
use Rattle.px_base.specs.declared.error.PlanError.TheVariants.{ShapeMismatch}
use Rattle.px_semantics.specs.Arithmetic.{nonzero_row}
use Rattle.px_semantics.specs.Rows.{lift, elementwise}
use Rattle.px_kernels.proofs.DividedRows.{rows_changed}
use Rattle.px_kernels.proofs.operators.divided.Goals as goal

pub returns-then-n-eq1 : goal.returns-then-n-eq1
returns-then-n-eq1 g c =
    let f = lift g.O.Operation.meaning in
    let made = ap (elementwise f c.args.a.now) c.in_ok-divisor.ensures ∙ rows_changed f nonzero_row refl c.args.a.now c.args.b.now in
    record { rows = gives_as ShapeMismatch (λ r. r) c.combine.result made c.combine.ensures.rows }
