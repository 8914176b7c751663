use Rattle.std.proofs.Common.{arith}
use Rattle.std.proofs.lemmas.Grind.{common_steps}
use Rattle.px_fields.specs.FieldTypes.{counted}
use Rattle.px_fields.proofs.FieldLemmas.{common_refused}
use Rattle.px_fields.proofs.field_types.common_of_fields.Goals as goal

pub returns-in_err-common-in-len1-up-2 : goal.returns-in_err-common-in-len1-up-2
returns-in_err-common-in-len1-up-2 c =
    let h = common_refused (λ f. counted c.args.by_elements f.dtype) c.loop-field.common _ c.loop-field.field-index c.field-item.result _ c.loop-field.invariant c.loop-field-test.true c.field-item.is in
    grind (arith, common_steps, h)
