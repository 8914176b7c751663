-- What expressions may speak of.
use Rattle.std.specs.Prelude.{List}
use Rattle.px_types.specs.declared.dtype.Field.{Field}
use Rattle.px_expr.specs.Kernel.{Kernel}

-- the columns of a schema, in order, and the caller's kernels by their numbers
pub record Catalog : Type 0 where
  pub schema : List Field
  pub kernels : List Kernel

abbrev pub catalog_of : List Field → List Kernel → Catalog
catalog_of schema kernels = record { schema = schema; kernels = kernels }
