use Rattle.std.proofs.Common.{◌≡◌, drop}
use Rattle.std.specs.List.{fold}
use Rattle.px_fields.specs.Reshape.{array_of, arrays_of}
use Rattle.px_fields.proofs.reshape.arrays_of.Given as goal

-- the dimensions that are left go around
abbrev pub invariant-loop-dimension : goal.invariant-loop-dimension
invariant-loop-dimension l = arrays_of l.element l.inferred l.dimensions ≡ fold (array_of l.inferred) l.arrays (drop l.dimension-index l.dimensions)
