use Rattle.std.proofs.Common.{◌≡◌, take, drop}
use Rattle.px_types.specs.Schemas.{names_of, first_repeated_after, first_repeated}
use Rattle.px_types.proofs.schema.Schema.from_fields.Given as goal

-- the fields so far have distinct names
abbrev pub invariant-loop-field : goal.invariant-loop-field
invariant-loop-field l = record {
  pushed : l.schema ≡ take l.field-index l.fields;
  left : first_repeated (names_of l.fields) ≡ first_repeated_after (names_of l.schema) (names_of (drop l.field-index l.fields));
}
