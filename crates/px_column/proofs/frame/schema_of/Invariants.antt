use Rattle.std.proofs.Common.{◌≡◌, take, drop, map}
use Rattle.px_semantics.specs.Frames.{column_names}
use Rattle.px_types.specs.Schemas.{names_of, first_repeated_after, first_repeated}
use Rattle.px_column.specs.FrameOf.{field_of}
use Rattle.px_column.proofs.frame.schema_of.Given as goal

-- the columns so far have distinct names
abbrev pub invariant-loop-column : goal.invariant-loop-column
invariant-loop-column l = record {
  pushed : l.schema ≡ map field_of (take l.column-index l.columns);
  left : first_repeated (column_names l.columns) ≡ first_repeated_after (names_of l.schema) (column_names (drop l.column-index l.columns));
}
