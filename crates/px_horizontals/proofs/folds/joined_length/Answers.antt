use Rattle.std.proofs.Common.{◌∙◌, sym, map, length, Some, None}
use Rattle.px_horizontals.specs.Inputs.{rows_of_buffers}
use Rattle.px_horizontals.proofs.FoldRows.{from_one, joined_next, typed_more}
use Rattle.px_horizontals.proofs.folds.joined_length.Goals as goal

pub loop-input-init : goal.loop-input-init
loop-input-init c = record { left = from_one (map length (rows_of_buffers c.args.inputs.now)); typed = tt }

pub returns-in_err-len-clause-length : goal.returns-in_err-len-clause-length
returns-in_err-len-clause-length c =
    let l = c.loop-input in
    let e = joined_next l.len c.len.result l.input-index None c.args.inputs.now c.input-item.result c.loop-input-test.true c.input-item.is c.in_err-len.ensures c.len.ensures.rows in
    c.from_residual.ensures ∙ sym e ∙ l.invariant.left

pub loop-input-preserved : goal.loop-input-preserved
loop-input-preserved c =
    let l = c.loop-input in
    let e = joined_next l.len c.len.result l.input-index (Some c.in_ok-len.len) c.args.inputs.now c.input-item.result c.loop-input-test.true c.input-item.is c.in_ok-len.ensures c.len.ensures.rows in
    record {
      left = sym e ∙ l.invariant.left;
      typed = typed_more c.args.inputs.now l.input-index c.input-item.result c.loop-input-test.true c.input-item.is l.invariant.typed c.len.ensures.typed;
    }
