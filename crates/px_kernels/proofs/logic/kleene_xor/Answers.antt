use Rattle.std.proofs.Common.{◌∙◌, sym}
use Rattle.std.proofs.lemmas.Result.{err_from_is_err_and}
use Rattle.px_types.specs.declared.operator.Operator.TheVariants.{Xor}
use Rattle.px_column.proofs.KernelRows.{refused, logic_gives, logic_none}
use Rattle.px_kernels.proofs.logic.kleene_xor.Goals as goal

pub logic-requires-clause-operand : goal.logic-requires-clause-operand
logic-requires-clause-operand c = rw c.buffer.ensures.value_type c.requires.operand

pub logic-requires-clause-same : goal.logic-requires-clause-same
logic-requires-clause-same c = c.buffer.ensures.value_type ∙ c.requires.same ∙ sym c.buffer-2.ensures.value_type

pub returns-in_err-buffer-clause-rows : goal.returns-in_err-buffer-clause-rows
returns-in_err-buffer-clause-rows c =
    let p = err_from_is_err_and c.from_residual.result c.from_residual.ensures.1 in
    let e = rw (c.buffer.ensures.value_type, c.buffer.ensures.rows, c.buffer-2.ensures.rows) at c.in_err-buffer.ensures.rows in
    rw (p.1, p.2) (refused _ (logic_none Xor c.args.a.now.values c.args.b.now.values) e)

pub returns-clause-rows : goal.returns-clause-rows
returns-clause-rows c =
    let e = rw (c.buffer.ensures.value_type, c.buffer.ensures.rows, c.buffer-2.ensures.rows) at c.in_ok-buffer.ensures.rows in
    rw c.new.ensures (logic_gives Xor c.args.a.now.values c.args.b.now.values _ (c.in_ok-buffer.ensures.value_type ∙ c.buffer.ensures.value_type) e)
