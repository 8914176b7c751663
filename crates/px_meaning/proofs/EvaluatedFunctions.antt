-- An evaluated function, taken among all functions, is the same one.
use Rattle.std.proofs.Common.{◌≡◌, Option, Some, refl}
use Rattle.px_functions.specs.Evaluated.{evaluated, of_evaluated}
use Rattle.px_functions.specs.declared.evaluated.EvaluatedBoolean.TheVariants.{IsNull, IsNotNull, Not}
use Rattle.px_functions.specs.declared.evaluated.EvaluatedFunction.{EvaluatedFunction}
use Rattle.px_functions.specs.declared.evaluated.EvaluatedFunction.TheVariants.{Boolean, Negate, Fused}

pub evaluated_of : (f : EvaluatedFunction) → evaluated (of_evaluated f) ≡ Some f
evaluated_of (Boolean IsNull) = refl
evaluated_of (Boolean IsNotNull) = refl
evaluated_of (Boolean Not) = refl
evaluated_of Negate = refl
evaluated_of (Fused f) = refl
