-- Rows of Booleans joined with rows of as many, or one.
use Rattle.std.proofs.Common.{◌≡◌, ◌∙◌, ◌⊎◌, inl, inr, ℕ, List, length, Some, None, sym, ap, refl}
use Rattle.std.specs.Prelude.{Result, Ok, Err, IfOk, IfErr}
use Rattle.std.specs.Simd.Lanes.{zip2}
use Rattle.px_base.specs.Answer.{GivesOr}
use Rattle.px_base.specs.declared.error.PlanError.{PlanError}
use Rattle.px_base.specs.declared.error.PlanError.TheVariants.{OutOfMemory, ShapeMismatch}
use Rattle.px_types.specs.declared.value_type.ValueType.{ValueType}
use Rattle.px_types.specs.declared.value_type.ValueType.TheVariants.{Boolean}
use Rattle.px_semantics.specs.Rows.{Row, IsBoolean, broadcast_length, elementwise, stretch}
use Rattle.px_semantics.proofs.Joins.{broadcast_left, broadcast_same, by_broadcast, stretch_whole}
use Rattle.px_semantics.proofs.LawLemmas.{broadcast_commutes}
use Rattle.px_column.specs.ColumnOf.{rows_of}
use Rattle.px_column.specs.declared.buffer.Buffer.{Buffer}

absorbed : (m n : ℕ) → (m ≡ 1) ⊎ (m ≡ n) → broadcast_length m n ≡ Some n
absorbed m n (inl e) = broadcast_left m n e
absorbed m n (inr e) = broadcast_same m n e ∙ ap Some e

-- rows that go with rows of as many, or one
pub joined_rows : (f : Row → Row → Row) (xs ys : List Row) → (length ys ≡ 1) ⊎ (length ys ≡ length xs) → elementwise f xs ys ≡ Some (zip2 f xs (stretch (length xs) ys))
joined_rows f xs ys h =
    by_broadcast f xs ys (length xs) (broadcast_commutes (length xs) (length ys) ∙ absorbed (length ys) (length xs) h)
    ∙ ap (λ l. Some (zip2 f l (stretch (length xs) ys))) (stretch_whole xs (length xs) refl)

pub boolean_is : (k : ValueType) → IsBoolean k → k ≡ Boolean
boolean_is Boolean h = refl
boolean_is k h = absurd h

-- the rows that are given, and out of memory as the only error
pub rows_given : (f : Row → Row → Row) (xs ys : List Row) (r : Result Buffer PlanError) → (length ys ≡ 1) ⊎ (length ys ≡ length xs) → GivesOr ShapeMismatch rows_of r (elementwise f xs ys)
    → IfOk r (λ b. rows_of b ≡ zip2 f xs (stretch (length xs) ys))
rows_given f xs ys (Ok b) h e = same (rows_of b) (zip2 f xs (stretch (length xs) ys)) (e ∙ joined_rows f xs ys h)
  where
    same : (a b : List Row) → Some a ≡ Some b → a ≡ b
    same a b p = cc
rows_given f xs ys (Err x) h e = tt

pub only_memory : (f : Row → Row → Row) (xs ys : List Row) (r : Result Buffer PlanError) → (length ys ≡ 1) ⊎ (length ys ≡ length xs) → GivesOr ShapeMismatch rows_of r (elementwise f xs ys)
    → IfErr r (λ e. e ≡ OutOfMemory)
only_memory f xs ys (Ok b) h e = tt
only_memory f xs ys (Err x) h (inl e) = e
only_memory f xs ys (Err x) h (inr e) = absurd (never (zip2 f xs (stretch (length xs) ys)) (sym e.1 ∙ joined_rows f xs ys h))
  where
    never : (a : List Row) → None ≡ Some a → ⊥
    never a p = cc
