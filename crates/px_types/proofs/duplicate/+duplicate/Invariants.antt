use Rattle.std.proofs.Common.{◌≡◌, take}
use Rattle.px_types.proofs.duplicate.+duplicate.Given as goal

-- what is cloned so far
abbrev pub invariant-clone_fields-loop-field : goal.invariant-clone_fields-loop-field
invariant-clone_fields-loop-field l = l.cloned.entries ≡ take l.field-index l.field-items
