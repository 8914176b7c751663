use Rattle.px_base.proofs.Answers.{gives_as}
use Rattle.px_base.specs.declared.error.PlanError.TheVariants.{ShapeMismatch}
use Rattle.px_types.specs.declared.operator.Operator.TheVariants.{Divide, FloorDivide, Modulus}
use Rattle.px_column.specs.ColumnOf.{type_of, rows_of}
use Rattle.px_column.specs.Buffers.{values_of}
use Rattle.px_kernels.proofs.DividedRows.{quotient_rows, floor_rows, rest_rows}
use Rattle.px_kernels.proofs.KernelRows.{arith_answer}
use Rattle.px_kernels.proofs.operators.arith_buffers.Goals as goal

pub returns-in-Plus : goal.returns-in-Plus
returns-in-Plus c = record { rows = arith_answer c.args.op (values_of c.args.a.now) (values_of c.args.b.now) c.ring_buffers.result c.ring_buffers.ensures.value_type c.ring_buffers.ensures.rows }

pub returns-in-Minus : goal.returns-in-Minus
returns-in-Minus c = record { rows = arith_answer c.args.op (values_of c.args.a.now) (values_of c.args.b.now) c.ring_buffers-in-Minus.result c.ring_buffers-in-Minus.ensures.value_type c.ring_buffers-in-Minus.ensures.rows }

pub returns-in-Multiply : goal.returns-in-Multiply
returns-in-Multiply c = record { rows = arith_answer c.args.op (values_of c.args.a.now) (values_of c.args.b.now) c.ring_buffers-in-Multiply.result c.ring_buffers-in-Multiply.ensures.value_type c.ring_buffers-in-Multiply.ensures.rows }

pub returns-in-Divide : goal.returns-in-Divide
returns-in-Divide c =
    let law = quotient_rows (type_of c.args.a.now) (rows_of c.args.a.now) (rows_of c.args.b.now) in
    let given = gives_as ShapeMismatch rows_of c.quotient_buffers.result law c.quotient_buffers.ensures.rows in
    record { rows = rw c.in-Divide.is (arith_answer Divide (values_of c.args.a.now) (values_of c.args.b.now) c.quotient_buffers.result c.quotient_buffers.ensures.value_type given) }

pub returns-in-FloorDivide : goal.returns-in-FloorDivide
returns-in-FloorDivide c =
    let law = floor_rows (type_of c.args.a.now) (rows_of c.args.a.now) (rows_of c.args.b.now) in
    let given = gives_as ShapeMismatch rows_of c.quotient_buffers-in-FloorDivide.result law c.quotient_buffers-in-FloorDivide.ensures.rows in
    record { rows = rw c.in-FloorDivide.is (arith_answer FloorDivide (values_of c.args.a.now) (values_of c.args.b.now) c.quotient_buffers-in-FloorDivide.result c.quotient_buffers-in-FloorDivide.ensures.value_type given) }

pub returns-in-Modulus : goal.returns-in-Modulus
returns-in-Modulus c =
    let law = rest_rows (type_of c.args.a.now) (rows_of c.args.a.now) (rows_of c.args.b.now) in
    let given = gives_as ShapeMismatch rows_of c.remainder_buffers.result law c.remainder_buffers.ensures.rows in
    record { rows = rw c.in-Modulus.is (arith_answer Modulus (values_of c.args.a.now) (values_of c.args.b.now) c.remainder_buffers.result c.remainder_buffers.ensures.value_type given) }
