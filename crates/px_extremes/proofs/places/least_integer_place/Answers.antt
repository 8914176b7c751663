use Rattle.std.proofs.Common.{◌∙◌, sym, ap}
use Rattle.px_semantics.specs.Extremes.{position_row}
use Rattle.px_extremes.specs.Reductions.{first_place}
use Rattle.px_extremes.proofs.ExtremeRows.{arg_min_row_is}
use Rattle.px_extremes.proofs.places.least_integer_place.Goals as goal

pub returns : goal.returns
returns g c =
    let rows = c.args.rows.now in
    ap position_row (c.integer_place.ensures ∙ ap (λ v. first_place v rows) c.least_integer.ensures) ∙ sym (arg_min_row_is g.T.Integer.value_type rows c.len.ensures.typed)
