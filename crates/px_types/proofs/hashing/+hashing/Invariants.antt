use Rattle.std.proofs.Common.{◌≡◌, drop}
use Rattle.std.specs.List.{fold}
use Rattle.px_types.specs.HashInputs.{fields_input}
use Rattle.px_types.proofs.hashing.+hashing.Given as goal

-- what is left to write is that of the fields that are left
abbrev pub invariant-hash_fields-loop-field : goal.invariant-hash_fields-loop-field
invariant-hash_fields-loop-field g l = fold g.H.Hasher.write l.fn.state (fields_input l.field-items) ≡ fold g.H.Hasher.write l.state (fields_input (drop l.field-index l.field-items))
