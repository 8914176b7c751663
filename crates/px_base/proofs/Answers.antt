-- Laws of the words for answers.
use Rattle.std.proofs.Common.{◌≡◌, ◌⊎◌, ◌∙◌, inl, ap, Option, Some, None, subst}
use Rattle.std.specs.Prelude.{Result, Ok, Err, IfOk, IfErr}
use Rattle.px_base.specs.declared.error.PlanError.{PlanError}
use Rattle.px_base.specs.declared.error.PlanError.TheVariants.{OutOfMemory}
use Rattle.px_base.specs.Answer.{GivesOrMemory, GivesOr}

-- what a call gives of an option, it gives of an equal one
pub gives_as : {A B : Type 0} (fault : PlanError) (view : A → B) (r : Result A PlanError) {o p : Option B} → o ≡ p → GivesOr fault view r o → GivesOr fault view r p
gives_as {A} {B} fault view r e h = subst (λ (o : Option B). GivesOr fault view r o) e h

-- its two halves
pub given_ok : {A B : Type 0} (fault : PlanError) (view : A → B) (r : Result A PlanError) (o : Option B) → GivesOr fault view r o → IfOk r (λ a. Some (view a) ≡ o)
given_ok fault view (Ok a) o h = h
given_ok fault view (Err e) o h = tt

pub given_err : {A B : Type 0} (fault : PlanError) (view : A → B) (r : Result A PlanError) (o : Option B) → GivesOr fault view r o → IfErr r (λ e. (e ≡ OutOfMemory) ⊎ ((e ≡ fault) × (o ≡ None)))
given_err fault view (Ok a) o h = tt
given_err fault view (Err e) o h = h

-- the value whose view is expected, or out of memory
pub gives_value : {A B : Type 0} (fault : PlanError) (view : A → B) (r : Result A PlanError) (a : A) (o : Option B) → GivesOrMemory r a → Some (view a) ≡ o → GivesOr fault view r o
gives_value fault view (Ok x) a o h e = ap (λ y. Some (view y)) h ∙ e
gives_value fault view (Err x) a o h e = inl h

-- what is expected wherever there is a value, and else out of memory
pub gives_each : {A B : Type 0} (fault : PlanError) (view : A → B) (r : Result A PlanError) (o : Option B) → IfOk r (λ a. Some (view a) ≡ o) → IfErr r (λ e. e ≡ OutOfMemory) → GivesOr fault view r o
gives_each fault view (Ok x) o h e = h
gives_each fault view (Err x) o h e = inl e
