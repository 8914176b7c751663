use Rattle.std.proofs.Common.{◌≡◌, take}
use Rattle.px_fields.proofs.rule_type.all_fields.Given as goal

-- the fields so far
abbrev pub invariant-loop-field : goal.invariant-loop-field
invariant-loop-field l = l.copies.entries ≡ take l.field-index l.fields
