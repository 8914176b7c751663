use Rattle.std.proofs.Common.{◌≡◌, ◌∙◌, length, map, None, Some, sym, ap}
use Rattle.px_semantics.specs.Frames.{heights}
use Rattle.px_semantics.specs.Rows.{TypedRows, broadcast_length}
use Rattle.px_semantics.specs.Rows.{broadcast_lengths}
use Rattle.px_eval.specs.Answers.{column_of}
use Rattle.px_eval.specs.Table.{values_of}
use Rattle.px_eval.proofs.Columns.{joined_start, joined_more, joined_not, joined_end}
use Rattle.px_eval.proofs.answers.joined_length.Goals as goal

pub loop-answer-init : goal.loop-answer-init
loop-answer-init c = joined_start (heights (map column_of c.args.answers.now))

pub returns-in_err-broadcast_length : goal.returns-in_err-broadcast_length
returns-in_err-broadcast_length c =
    let len = c.len.ensures.rows ∙ ap (λ (v : TypedRows). length v.rows) c.buffer.ensures in
    let joins : broadcast_length c.loop-answer.broadcast_length (length (values_of c.answer-item.result.rows).rows) ≡ None = ap (broadcast_length c.loop-answer.broadcast_length) (sym len) ∙ (sym c.join_lengths.ensures ∙ c.in_err-broadcast_length.was) in
    let lost : broadcast_lengths (heights (map column_of c.args.answers.now)) ≡ None =
    joined_not c.args.answers.now c.loop-answer.answer-index c.answer-item.result c.loop-answer.broadcast_length _ c.loop-answer-test.true c.answer-item.is joins c.loop-answer.invariant in
    cc (c.from_residual.ensures, lost)

pub loop-answer-preserved : goal.loop-answer-preserved
loop-answer-preserved c =
    let len = c.len.ensures.rows ∙ ap (λ (v : TypedRows). length v.rows) c.buffer.ensures in
    let joins : broadcast_length c.loop-answer.broadcast_length (length (values_of c.answer-item.result.rows).rows) ≡ Some c.in_ok-broadcast_length.broadcast_length = ap (broadcast_length c.loop-answer.broadcast_length) (sym len) ∙ (sym c.join_lengths.ensures ∙ c.in_ok-broadcast_length.was) in
    joined_more c.args.answers.now c.loop-answer.answer-index c.answer-item.result c.loop-answer.broadcast_length c.in_ok-broadcast_length.broadcast_length _ c.loop-answer-test.true c.answer-item.is joins c.loop-answer.invariant

pub returns : goal.returns
returns c = joined_end c.args.answers.now c.loop-answer.answer-index c.loop-answer.broadcast_length _ c.loop-answer-test.false c.loop-answer.invariant
