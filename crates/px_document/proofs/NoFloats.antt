-- What is written has no float.
use Rattle.std.proofs.Common.{◌≡◌, false, IfOk, Result, Ok, Err, refl}
use Rattle.serde_json.specs.View.{view}
use Rattle.serde_json.specs.Written.{has_float}
use Rattle.serde_json.specs.declared.value.Value.{Value}
use Rattle.px_base.specs.declared.error.PlanError.{PlanError}
use Rattle.px_base.specs.declared.error.PlanError.TheVariants.{OutOfMemory, ColumnNotFound, InvalidOperation, Duplicate, ShapeMismatch, InvalidCast, OutOfBounds, TooLong, KernelFailed}
use Rattle.px_base.specs.Answer.{GivesSeen}
use Rattle.px_document.specs.Report.{error_data}

no_float_in_error : (e : PlanError) → has_float (error_data e) ≡ false
no_float_in_error OutOfMemory = refl
no_float_in_error (ColumnNotFound name) = refl
no_float_in_error InvalidOperation = refl
no_float_in_error (Duplicate name) = refl
no_float_in_error ShapeMismatch = refl
no_float_in_error InvalidCast = refl
no_float_in_error OutOfBounds = refl
no_float_in_error TooLong = refl
no_float_in_error KernelFailed = refl

-- the same of what a call gave
pub plain_error_value : (e : PlanError) (r : Result Value PlanError) → GivesSeen view r (error_data e) → IfOk r (λ v. has_float (view v) ≡ false)
plain_error_value e (Ok v) is = rw is (no_float_in_error e)
plain_error_value e (Err f) is = tt
