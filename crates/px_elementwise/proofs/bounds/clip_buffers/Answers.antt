use Rattle.std.proofs.Common.{None}
use Rattle.std.proofs.lemmas.Result.{err_from_is_err_and}
use Rattle.px_base.proofs.Answers.{gives_as, gives_value}
use Rattle.px_base.specs.declared.error.PlanError.TheVariants.{ShapeMismatch}
use Rattle.px_semantics.specs.Bounds.{clip_rows}
use Rattle.px_column.specs.Buffers.{values_of}
use Rattle.px_column.proofs.KernelRows.{refused}
use Rattle.px_elementwise.proofs.BoundedRows.{clip_none, clip_low, clip_high, clip_both, clip_refused}
use Rattle.px_elementwise.proofs.bounds.clip_buffers.Goals as goal

pub returns-in-None-None : goal.returns-in-None-None
returns-in-None-None c =
    let a = values_of c.args.a.now in
    rw (c.in-None-None.is-0, c.in-None-None.is-1) (gives_value ShapeMismatch values_of c.try_clone.result c.args.a.now (clip_rows a None None) c.try_clone.ensures (clip_none a))

pub returns-in-None-Some : goal.returns-in-None-Some
returns-in-None-Some c =
    let a = values_of c.args.a.now in
    let high = values_of c.in-None-Some.high.now in
    rw (c.in-None-Some.is-0, c.in-None-Some.is-1) (gives_as ShapeMismatch values_of c.lowered_buffers.result (clip_high a high) c.lowered_buffers.ensures)

pub returns-in-Some-None : goal.returns-in-Some-None
returns-in-Some-None c =
    let a = values_of c.args.a.now in
    let low = values_of c.in-Some-None.low.now in
    rw (c.in-Some-None.is-0, c.in-Some-None.is-1) (gives_as ShapeMismatch values_of c.raised_buffers.result (clip_low a low) c.raised_buffers.ensures)

pub returns-in_err-raised-in-Some-Some : goal.returns-in_err-raised-in-Some-Some
returns-in_err-raised-in-Some-Some c =
    let a = values_of c.args.a.now in
    let low = values_of c.in-Some-Some.low.now in
    let high = values_of c.in-Some-Some.high.now in
    let p = err_from_is_err_and c.from_residual.result c.from_residual.ensures.1 in
    rw (c.in-Some-Some.is-0, c.in-Some-Some.is-1, p.1, p.2) (refused _ (clip_refused a low high) c.in_err-raised-in-Some-Some.ensures)

pub returns-in_ok-raised-in-Some-Some : goal.returns-in_ok-raised-in-Some-Some
returns-in_ok-raised-in-Some-Some c =
    let a = values_of c.args.a.now in
    let low = values_of c.in-Some-Some.low.now in
    let high = values_of c.in-Some-Some.high.now in
    let raised = values_of c.in_ok-raised-in-Some-Some.raised in
    rw (c.in-Some-Some.is-0, c.in-Some-Some.is-1)
    (gives_as ShapeMismatch values_of c.lowered_buffers-in-Some-Some.result (clip_both a low high raised c.in_ok-raised-in-Some-Some.ensures) c.lowered_buffers-in-Some-Some.ensures)
