-- The text of an error.
use Rattle.std.specs.Prelude.{ℕ, List, ◌++◌, codes}
use Rattle.px_base.specs.declared.error.PlanError.{PlanError}
use Rattle.px_base.specs.declared.error.PlanError.TheVariants.{OutOfMemory, ColumnNotFound, InvalidOperation, Duplicate, ShapeMismatch, InvalidCast, OutOfBounds, TooLong, KernelFailed}

-- the variant's name, and after a colon and a space the name that it keeps
abbrev pub error_text : PlanError → List ℕ
error_text OutOfMemory = codes "OutOfMemory"
error_text (ColumnNotFound name) = codes "ColumnNotFound: " ++ name
error_text InvalidOperation = codes "InvalidOperation"
error_text (Duplicate name) = codes "Duplicate: " ++ name
error_text ShapeMismatch = codes "ShapeMismatch"
error_text InvalidCast = codes "InvalidCast"
error_text OutOfBounds = codes "OutOfBounds"
error_text TooLong = codes "TooLong"
error_text KernelFailed = codes "KernelFailed"
