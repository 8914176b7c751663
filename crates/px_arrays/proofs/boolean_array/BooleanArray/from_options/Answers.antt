use Rattle.std.proofs.Common.{◌∙◌}
use Rattle.std.proofs.lemmas.Result.{IfOk-weaker}
use Rattle.px_arrays.proofs.BooleanRows.{option_entries}
use Rattle.px_arrays.proofs.boolean_array.BooleanArray.from_options.Goals as goal

pub returns : goal.returns
returns c =
    IfOk-weaker c.from_flags.result _ _
    (λ r e. e ∙ rw (c.as_slice-2.ensures.value, c.in_ok-valid-2.ensures, c.as_slice.ensures.value, c.in_ok-flags.ensures, c.in_ok-valid.ensures) (option_entries c.args.values.now))
    c.from_flags.ensures
