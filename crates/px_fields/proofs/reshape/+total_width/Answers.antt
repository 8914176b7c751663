use Rattle.std.proofs.Common.{◌≡◌, Some, None}
use Rattle.px_fields.specs.Reshape.{in_u64}
use Rattle.px_fields.specs.TypeChanges.{total_width}
use Rattle.px_fields.proofs.ReshapeLemmas.{total_width-array, width_past, width_times}
use Rattle.px_fields.proofs.reshape.+total_width.Goals as goal

pub returns-in_err-total_width-in-Array : goal.returns-in_err-total_width-in-Array
returns-in_err-total_width-in-Array t c =
    let e : in_u64 (total_width c.in-Array.inner) ≡ None = cc (c.total_width.ensures, c.get.ensures, c.in_err-total_width-in-Array.was) in
    rw (c.from_residual.ensures, c.in-Array.is, total_width-array) (width_past c.in-Array.width (total_width c.in-Array.inner) c.if-width-eq0.false e)

pub returns-in_ok-total_width-in-Array : goal.returns-in_ok-total_width-in-Array
returns-in_ok-total_width-in-Array t c =
    let e : in_u64 (total_width c.in-Array.inner) ≡ Some c.in_ok-total_width-in-Array.field-0 = cc (c.total_width.ensures, c.get.ensures, c.in_ok-total_width-in-Array.was) in
    rw (c.in-Array.is, total_width-array) (width_times c.in-Array.width (total_width c.in-Array.inner) c.in_ok-total_width-in-Array.field-0 c.checked_mul.result e c.checked_mul.ensures)
