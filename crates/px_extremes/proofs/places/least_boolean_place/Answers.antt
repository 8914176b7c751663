use Rattle.std.proofs.Common.{◌∙◌, sym, ap}
use Rattle.px_semantics.specs.Extremes.{position_row}
use Rattle.px_types.specs.declared.value_type.ValueType.TheVariants as value_type
use Rattle.px_extremes.specs.Reductions.{first_place}
use Rattle.px_extremes.proofs.ExtremeRows.{arg_min_row_is}
use Rattle.px_extremes.proofs.places.least_boolean_place.Goals as goal

pub returns : goal.returns
returns c =
    let rows = c.args.rows.now in
    ap position_row (c.boolean_place.ensures ∙ ap (λ v. first_place v rows) c.least_boolean.ensures.least) ∙ sym (arg_min_row_is value_type.Boolean rows c.len.ensures.typed)
