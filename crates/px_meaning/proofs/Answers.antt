-- Answers that come one after the other.
use Rattle.std.proofs.Common.{◌≡◌, Option, Some, None, Result, Ok, Err, Bool, true, false, refl}
use Rattle.px_base.specs.declared.error.PlanError.{PlanError}
use Rattle.px_meaning.specs.Check.{then_, or_fault}
use Rattle.px_meaning.specs.Signatures.{given}

pub from_option : {A : Type 0} (e : PlanError) (o : Option A) (a : A) → or_fault e o ≡ Ok a → o ≡ Some a
from_option e (Some b) a h = cc
from_option e None a h = cc

-- an answer that comes after another
pub then_-parts : {A B : Type 0} (r : Result A PlanError) (f : A → Result B PlanError) (b : B) → then_ r f ≡ Ok b → (a : A) × (r ≡ Ok a) × (f a ≡ Ok b)
then_-parts (Ok a) f b e = (a, refl, e)
then_-parts (Err x) f b e = cc

-- a value that is given was tested
pub given-parts : {A : Type 0} (test : Bool) (a b : A) → given test a ≡ Some b → (test ≡ true) × (a ≡ b)
given-parts true a b e = (refl, cc)
given-parts false a b e = cc
