use Rattle.std.proofs.Common.{◌≡◌, drop, map, Some}
use Rattle.std.specs.List.{fold}
use Rattle.px_fields.specs.FieldTypes.{common_with, counted, common_of_fields}
use Rattle.px_fields.proofs.field_types.common_of_fields.Given as goal

-- the fields that are left have still to be taken in
abbrev pub invariant-loop-field : goal.invariant-loop-field
invariant-loop-field l = common_of_fields l.by_elements l.fields ≡ fold common_with (Some l.common) (map (λ f. counted l.by_elements f.dtype) (drop l.field-index l.others))
