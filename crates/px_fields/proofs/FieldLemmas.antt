-- Lemmas of first fields and of common types.
use Rattle.std.specs.Prelude.{◌≡◌, ℕ, ◌<◌, List, [], ◌∷◌, map, drop, Option, Some, None, Result, Ok, Err, IfOk, length, refl}
use Rattle.std.specs.List.{fold}
use Rattle.std.proofs.Common.{◌∙◌, sym, ap, subst, get_or, drop-cons, suc, arith}
use Rattle.px_base.specs.declared.error.PlanError.{PlanError}
use Rattle.px_base.specs.Answer.{GivesOrMemory}
use Rattle.px_types.specs.declared.dtype.DataType.{DataType}
use Rattle.px_types.specs.declared.dtype.Field.{Field}
use Rattle.px_types.specs.Supertypes.{common_type}
use Rattle.px_fields.specs.FieldTypes.{common_with, first}

-- the field at the first place
pub first_at : (fields : List Field) (other : Field) → 0 < length fields → get_or fields 0 other ≡ first fields
first_at [] other h = absurd (omega arith)
first_at (f ∷ fs) other h = refl

-- types without a common type stay so
none_stays : (ds : List DataType) → fold common_with None ds ≡ None
none_stays [] = refl
none_stays (d ∷ ds) = none_stays ds

stays_none : (o : Option DataType) (ds : List DataType) → o ≡ None → fold common_with o ds ≡ None
stays_none o ds e = rw e (none_stays ds)

-- a field whose type has none with those before it
pub common_refused : (type : Field → DataType) (common : DataType) (fields : List Field) (i : ℕ) (field : Field) (o : Option DataType)
    → o ≡ fold common_with (Some common) (map type (drop i fields)) → i < length fields → field ≡ get_or fields i field → common_type common (type field) ≡ None → o ≡ None
common_refused type common fields i field o e h is none =
    let k : common_type common (type (get_or fields i field)) ≡ None = rw (← is) none in
    let p : fold common_with (Some common) (map type (get_or fields i field ∷ drop (suc i) fields)) ≡ None = stays_none (common_type common (type (get_or fields i field))) (map type (drop (suc i) fields)) k in
    e ∙ rw (drop-cons fields i field) p

-- what holds of the type that a field is given
pub of_given : (P : DataType → Type 0) (r : Result Field PlanError) (name : List ℕ) (d : DataType) → GivesOrMemory r (record { name = name; dtype = d }) → P d → IfOk r (λ f. P f.dtype)
of_given P (Ok f) name d e p = subst P (sym (ap (λ (z : Field). z.dtype) e)) p
of_given P (Err error) name d e p = tt
