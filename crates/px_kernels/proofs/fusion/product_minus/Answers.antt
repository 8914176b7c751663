use Rattle.std.proofs.Common.{◌∙◌, ap}
use Rattle.px_base.proofs.Answers.{gives_as}
use Rattle.px_base.specs.declared.error.PlanError.TheVariants.{ShapeMismatch}
use Rattle.px_semantics.specs.Arithmetic.{arith_row}
use Rattle.px_semantics.specs.Rows.{elementwise}
use Rattle.px_types.specs.declared.operator.Operator.TheVariants.{Minus}
use Rattle.px_column.specs.ColumnOf.{type_of, rows_of}
use Rattle.px_kernels.proofs.FormRows.{after_first, product_steps}
use Rattle.px_kernels.proofs.fusion.product_minus.Goals as goal

pub returns-clause-rows : goal.returns-clause-rows
returns-clause-rows c =
    let k = type_of c.args.a.now in
    let zs = rows_of c.args.c.now in
    let law = product_steps k (rows_of c.args.a.now) (rows_of c.args.b.now) zs in
    let as_first = ap (λ k. elementwise (arith_row Minus k) (rows_of c.in_ok-product.product) zs) c.in_ok-product.ensures.value_type in
    let step = as_first ∙ after_first (λ p. elementwise (arith_row Minus k) p zs) _ _ (rows_of c.in_ok-product.product) law c.in_ok-product.ensures.rows in
    gives_as ShapeMismatch rows_of c.ring_buffers-2.result step c.ring_buffers-2.ensures.rows
