use Rattle.std.proofs.Common.{◌∙◌, sym, ap}
use Rattle.px_base.proofs.Answers.{gives_as}
use Rattle.px_base.specs.declared.error.PlanError.TheVariants.{ShapeMismatch}
use Rattle.px_semantics.specs.Arithmetic.{arith_row}
use Rattle.px_semantics.specs.Rows.{elementwise}
use Rattle.px_types.specs.declared.operator.Operator.TheVariants.{Plus, Multiply}
use Rattle.px_column.specs.ColumnOf.{type_of, rows_of}
use Rattle.px_kernels.proofs.FormRows.{after_first, plus_steps}
use Rattle.px_kernels.proofs.fusion.plus_product.Goals as goal

pub returns-clause-rows : goal.returns-clause-rows
returns-clause-rows c =
    let k = type_of c.args.a.now in
    let ys = rows_of c.args.b.now in
    let zs = rows_of c.args.c.now in
    let law = plus_steps k (rows_of c.args.a.now) ys zs in
    let as_first = ap (λ k. elementwise (arith_row Multiply k) ys zs) (sym c.requires.same) in
    let step = after_first (elementwise (arith_row Plus k) (rows_of c.args.a.now)) _ _ (rows_of c.in_ok-product.product) law (c.in_ok-product.ensures.rows ∙ as_first) in
    gives_as ShapeMismatch rows_of c.ring_buffers-2.result step c.ring_buffers-2.ensures.rows
