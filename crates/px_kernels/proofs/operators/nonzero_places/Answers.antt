use Rattle.std.proofs.Common.{◌∙◌, ap, map, is_some}
use Rattle.std.proofs.lemmas.Result.{IfOk-weaker}
use Rattle.px_semantics.specs.Arithmetic.{nonzero_row}
use Rattle.px_kernels.proofs.DividedRows.{nonzero_bits}
use Rattle.px_kernels.proofs.operators.nonzero_places.Goals as goal

pub returns : goal.returns
returns g c =
    let n = g.T.Integer.integer in
    IfOk-weaker c.and.result _ _
    (λ b e. e ∙ rw (c.valid.ensures, c.in_ok-places.ensures, c.as_slice.ensures.value, c.in_ok-flags.ensures) (nonzero_bits (map is_some c.args.rows.now) (map n c.values.result.now))
    ∙ ap (λ l. map is_some (map nonzero_row l)) c.values.ensures.entries)
    c.and.ensures
