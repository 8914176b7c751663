-- The rows of a place by a fold of steps of two rows, for each kernel.
use Rattle.std.proofs.Common.{◌≡◌, ◌∙◌, List, [], ◌∷◌, true, false, Some, None, sym, refl}
use Rattle.std.specs.List.{fold}
use Rattle.std.specs.Simd.Lanes.{Each1}
use Rattle.px_types.specs.declared.value_type.ValueType.{ValueType}
use Rattle.px_types.specs.declared.value_type.ValueType.TheVariants.{Boolean}
use Rattle.px_extremes.proofs.ExtremeRows.{min_row_fold, max_row_fold}
use Rattle.px_semantics.specs.Aggregates.{all_row, any_row}
use Rattle.px_semantics.specs.Extremes.{min_row, max_row}
use Rattle.px_semantics.specs.Horizontals.{coalesce_row}
use Rattle.px_semantics.specs.Logic.{and_row, or_row}
use Rattle.px_semantics.specs.Rows.{Datum, Row, BooleanValue, StringValue, IntegerValue, IsRowOf}
use Rattle.px_horizontals.specs.Choices.{chosen}
use Rattle.px_horizontals.specs.Folds.{fold_row}
use Rattle.px_horizontals.specs.declared.choices.Choice.TheVariants as choice

-- ---- the first value

kept_value : (v : Datum) (xs : List Row) → fold (chosen choice.First) (Some v) xs ≡ Some v
kept_value v [] = refl
kept_value v (y ∷ ys) = kept_value v ys

coalesced : (x : Row) (xs : List Row) → fold (chosen choice.First) x xs ≡ coalesce_row (x ∷ xs)
coalesced (Some v) xs = kept_value v xs
coalesced None [] = refl
coalesced None (y ∷ ys) = coalesced y ys

pub coalesce_law : (t : ValueType) (x : Row) (xs : List Row) → IsRowOf t x → Each1 (IsRowOf t) xs → fold_row (chosen choice.First) (x ∷ xs) ≡ coalesce_row (x ∷ xs)
coalesce_law t x xs p q = coalesced x xs

-- ---- the least and the greatest value

pub min_law : (t : ValueType) (x : Row) (xs : List Row) → IsRowOf t x → Each1 (IsRowOf t) xs → fold_row (chosen choice.Least) (x ∷ xs) ≡ min_row (x ∷ xs)
min_law t x xs p q = sym (min_row_fold t (x ∷ xs) (p, q))

pub max_law : (t : ValueType) (x : Row) (xs : List Row) → IsRowOf t x → Each1 (IsRowOf t) xs → fold_row (chosen choice.Greatest) (x ∷ xs) ≡ max_row (x ∷ xs)
max_law t x xs p q = sym (max_row_fold t (x ∷ xs) (p, q))

-- ---- whether all are true, and whether one is

all_next : (x y : Row) (ys : List Row) → IsRowOf Boolean x → IsRowOf Boolean y → all_row false (and_row x y ∷ ys) ≡ all_row false (x ∷ (y ∷ ys))
all_next x (Some (StringValue s)) ys p q = absurd q
all_next x (Some (IntegerValue z)) ys p q = absurd q
all_next (Some (StringValue s)) y ys p q = absurd p
all_next (Some (IntegerValue z)) y ys p q = absurd p
all_next (Some (BooleanValue true)) (Some (BooleanValue true)) ys p q = refl
all_next (Some (BooleanValue true)) (Some (BooleanValue false)) ys p q = refl
all_next (Some (BooleanValue true)) None ys p q = refl
all_next (Some (BooleanValue false)) (Some (BooleanValue true)) ys p q = refl
all_next (Some (BooleanValue false)) (Some (BooleanValue false)) ys p q = refl
all_next (Some (BooleanValue false)) None ys p q = refl
all_next None (Some (BooleanValue true)) ys p q = refl
all_next None (Some (BooleanValue false)) ys p q = refl
all_next None None ys p q = refl

and_typed : (x y : Row) → IsRowOf Boolean x → IsRowOf Boolean y → IsRowOf Boolean (and_row x y)
and_typed x (Some (StringValue s)) p q = absurd q
and_typed x (Some (IntegerValue z)) p q = absurd q
and_typed (Some (StringValue s)) y p q = absurd p
and_typed (Some (IntegerValue z)) y p q = absurd p
and_typed (Some (BooleanValue true)) (Some (BooleanValue true)) p q = tt
and_typed (Some (BooleanValue true)) (Some (BooleanValue false)) p q = tt
and_typed (Some (BooleanValue true)) None p q = tt
and_typed (Some (BooleanValue false)) (Some (BooleanValue true)) p q = tt
and_typed (Some (BooleanValue false)) (Some (BooleanValue false)) p q = tt
and_typed (Some (BooleanValue false)) None p q = tt
and_typed None (Some (BooleanValue true)) p q = tt
and_typed None (Some (BooleanValue false)) p q = tt
and_typed None None p q = tt

pub all_law : (x : Row) (xs : List Row) → IsRowOf Boolean x → Each1 (IsRowOf Boolean) xs → fold_row and_row (x ∷ xs) ≡ all_row false (x ∷ xs)
all_law (Some (StringValue s)) [] p q = absurd p
all_law (Some (IntegerValue z)) [] p q = absurd p
all_law (Some (BooleanValue true)) [] p q = refl
all_law (Some (BooleanValue false)) [] p q = refl
all_law None [] p q = refl
all_law x (y ∷ ys) p q = all_law (and_row x y) ys (and_typed x y p q.0) q.1 ∙ all_next x y ys p q.0

any_next : (x y : Row) (ys : List Row) → IsRowOf Boolean x → IsRowOf Boolean y → any_row false (or_row x y ∷ ys) ≡ any_row false (x ∷ (y ∷ ys))
any_next x (Some (StringValue s)) ys p q = absurd q
any_next x (Some (IntegerValue z)) ys p q = absurd q
any_next (Some (StringValue s)) y ys p q = absurd p
any_next (Some (IntegerValue z)) y ys p q = absurd p
any_next (Some (BooleanValue true)) (Some (BooleanValue true)) ys p q = refl
any_next (Some (BooleanValue true)) (Some (BooleanValue false)) ys p q = refl
any_next (Some (BooleanValue true)) None ys p q = refl
any_next (Some (BooleanValue false)) (Some (BooleanValue true)) ys p q = refl
any_next (Some (BooleanValue false)) (Some (BooleanValue false)) ys p q = refl
any_next (Some (BooleanValue false)) None ys p q = refl
any_next None (Some (BooleanValue true)) ys p q = refl
any_next None (Some (BooleanValue false)) ys p q = refl
any_next None None ys p q = refl

or_typed : (x y : Row) → IsRowOf Boolean x → IsRowOf Boolean y → IsRowOf Boolean (or_row x y)
or_typed x (Some (StringValue s)) p q = absurd q
or_typed x (Some (IntegerValue z)) p q = absurd q
or_typed (Some (StringValue s)) y p q = absurd p
or_typed (Some (IntegerValue z)) y p q = absurd p
or_typed (Some (BooleanValue true)) (Some (BooleanValue true)) p q = tt
or_typed (Some (BooleanValue true)) (Some (BooleanValue false)) p q = tt
or_typed (Some (BooleanValue true)) None p q = tt
or_typed (Some (BooleanValue false)) (Some (BooleanValue true)) p q = tt
or_typed (Some (BooleanValue false)) (Some (BooleanValue false)) p q = tt
or_typed (Some (BooleanValue false)) None p q = tt
or_typed None (Some (BooleanValue true)) p q = tt
or_typed None (Some (BooleanValue false)) p q = tt
or_typed None None p q = tt

pub any_law : (x : Row) (xs : List Row) → IsRowOf Boolean x → Each1 (IsRowOf Boolean) xs → fold_row or_row (x ∷ xs) ≡ any_row false (x ∷ xs)
any_law (Some (StringValue s)) [] p q = absurd p
any_law (Some (IntegerValue z)) [] p q = absurd p
any_law (Some (BooleanValue true)) [] p q = refl
any_law (Some (BooleanValue false)) [] p q = refl
any_law None [] p q = refl
any_law x (y ∷ ys) p q = any_law (or_row x y) ys (or_typed x y p q.0) q.1 ∙ any_next x y ys p q.0
