use Rattle.std.proofs.Common.{◌≡◌, take, map}
use Rattle.px_fields.specs.TypeChanges.{physical_field}
use Rattle.px_fields.proofs.type_changes.+physical.Given as goal

-- the fields so far
abbrev pub invariant-physical_fields-loop-field : goal.invariant-physical_fields-loop-field
invariant-physical_fields-loop-field l = l.kept.entries ≡ map physical_field (take l.field-index l.field-items)
