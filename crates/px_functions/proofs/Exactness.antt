-- The derived `==` of functions is exact.
use Rattle.std.proofs.Common.{◌≡◌, Bool, true, false, ◌&&◌, List, [], ◌∷◌, Option, Some, None, refl, ap, inl, inr}
use Rattle.std.specs.Bool.{Decides}
use Rattle.std.specs.Option.{option_eq}
use Rattle.std.specs.Cmp.{unsigned_Decides, signed_Decides, booleans_Decides}
use lib.Pointwise.{pointwise, pointwise_decides}
use denote.Struct.Field.{Field}
use denote.Struct.Values.{Values}
use denote.Enum.Bare.{Bare, sameb, same_true, true_same}
use denote.Enum.Declared.{Declared, Record, Choice, values_one, left_or, right_or}
use denote.Enum.Compared.{Each, by}
use Rattle.px_base.proofs.Exact.{same-decides}
use Rattle.px_base.specs.declared.list.List.{List as Entries}
use Rattle.px_types.specs.contracts.dtype.DataType.{the_row}
use Rattle.px_types.specs.contracts.type_parts.ClosedInterval.{the_type as ClosedInterval}
use Rattle.px_functions.specs.contracts.small.InterpolationMethod.{the_type as InterpolationMethod}
use Rattle.px_functions.specs.contracts.small.NullBehavior.{the_type as NullBehavior}
use Rattle.px_functions.specs.contracts.small.SearchSortedSide.{the_type as SearchSortedSide}
use Rattle.px_functions.specs.contracts.small.IsSorted.{the_type as IsSorted}
use Rattle.px_functions.specs.contracts.small.RankMethod.{the_type as RankMethod}
use Rattle.px_types.specs.contracts.function.BitwiseFunction.{the_type as BitwiseFunction}
use Rattle.px_types.specs.contracts.function.FusedOperator.{the_type as FusedOperator}
use Rattle.px_functions.specs.declared.small.PowFunction.{PowFunction}
use Rattle.px_functions.specs.declared.small.PowFunction.TheVariants.{Generic}
use Rattle.px_functions.specs.declared.small.RankOptions.{RankOptions}
use Rattle.px_functions.specs.contracts.small.RankOptionsPartialEq.TheImpl.{eq-value as rank_eq}
use Rattle.px_functions.specs.declared.small.ReshapeDimension.{ReshapeDimension}
use Rattle.px_functions.specs.contracts.small.ReshapeDimension.{enum as dimension_enum}
use Rattle.px_functions.specs.contracts.small.ReshapeDimensionPartialEq.TheImpl.{eq-value as dimension_eq}
use Rattle.px_functions.specs.declared.small.FillNullStrategy.{FillNullStrategy}
use Rattle.px_functions.specs.contracts.small.FillNullStrategy.{enum as strategy_enum}
use Rattle.px_functions.specs.contracts.small.FillNullStrategyPartialEq.TheImpl.{eq-value as strategy_eq}
use Rattle.px_functions.specs.declared.function.BooleanFunction.{BooleanFunction}
use Rattle.px_functions.specs.contracts.function.BooleanFunction.{enum as boolean_enum}
use Rattle.px_functions.specs.contracts.function.BooleanFunctionPartialEq.TheImpl.{eq-value as boolean_eq}
use Rattle.px_functions.specs.declared.function.FunctionExpr.{FunctionExpr}
use Rattle.px_functions.specs.contracts.function.FunctionExpr.{enum as function_enum}
use Rattle.px_functions.specs.contracts.function.FunctionExprPartialEq.TheImpl.{eq-value as function_eq}

-- Any enum.

-- each variant's test says whether the fields are equal
abbrev pub Exacts : (Fss : List (List Field)) → Each Bool Fss → Type 0
Exacts [] es = Unit {0}
Exacts (Fs ∷ Fss) es = ((x y : Values Fs) → Decides (es.0 x y) (x ≡ y)) × Exacts Fss es.1

choices : (Fss : List (List Field)) (es : Each Bool Fss) → Exacts Fss es → (c d : Choice Fss) → Decides (by false false Fss es c d) (c ≡ d)
choices [] es all c d = absurd c
choices (Fs ∷ Fss) es all (inl x) (inl y) = (λ e. ap inl ((all.0 x y).0 e), λ e. (all.0 x y).1 (ap (left_or x) e))
choices (Fs ∷ Fss) es all (inl x) (inr y) = (λ e. cc, λ e. cc)
choices (Fs ∷ Fss) es all (inr x) (inl y) = (λ e. cc, λ e. cc)
choices (Fs ∷ Fss) es all (inr x) (inr y) =
    (λ e. ap inr ((choices Fss es.1 all.1 x y).0 e), λ e. (choices Fss es.1 all.1 x y).1 (ap (right_or x) e))

module _ (N : Record) where
  exact : (es : Each Bool N.parts) → Exacts N.parts es → (x y : N.D) → Decides (by false false N.parts es (N.as_values x) (N.as_values y)) (x ≡ y)
  exact es all x y =
      (λ e. values_one N x y ((choices N.parts es all (N.as_values x) (N.as_values y)).0 e), λ e. (choices N.parts es all (N.as_values x) (N.as_values y)).1 (ap N.as_values e))

-- The fields of a variant.

both : (p q : Bool) → (p && q) ≡ true → (p ≡ true) × (q ≡ true)
both true true e = (refl, refl)
both true false e = cc
both false q e = cc

joint : (p q : Bool) → p ≡ true → q ≡ true → (p && q) ≡ true
joint p q e f = rw (e, f) refl

none : (x y : Unit {0}) → Decides true (x ≡ y)
none x y = (λ e. refl, λ e. refl)

one : {A : Type 0} {E : A → A → Bool} → ((a b : A) → Decides (E a b) (a ≡ b)) → (x y : A × Unit {0}) → Decides (E x.0 y.0) (x ≡ y)
one {A} d x y = (λ e i. ((d x.0 y.0).0 e i, tt), λ e. (d x.0 y.0).1 (ap (λ (z : A × Unit {0}). z.0) e))

more : {A B : Type 0} {E : A → A → Bool} {F : B → B → Bool} → ((a b : A) → Decides (E a b) (a ≡ b)) → ((a b : B) → Decides (F a b) (a ≡ b))
    → (x y : A × B) → Decides (E x.0 y.0 && F x.1 y.1) (x ≡ y)
more {A} {B} {E} {F} d f x y = (
  λ e i. ((d x.0 y.0).0 (both (E x.0 y.0) (F x.1 y.1) e).0 i, (f x.1 y.1).0 (both (E x.0 y.0) (F x.1 y.1) e).1 i),
  λ e. joint (E x.0 y.0) (F x.1 y.1) ((d x.0 y.0).1 (ap (λ (z : A × B). z.0) e)) ((f x.1 y.1).1 (ap (λ (z : A × B). z.1) e)),
)

-- Parts of fields.

bare : (D : Declared) → Bare D.parts → (a b : D.D) → Decides (sameb D a b) (a ≡ b)
bare D none a b = (λ e. same_true D none a b e, λ e. true_same D a b e)

option-exact : {A : Type 0} {E : A → A → Bool} → ((a b : A) → Decides (E a b) (a ≡ b)) → (x y : Option A) → Decides (option_eq E x y) (x ≡ y)
option-exact d None None = (λ e. refl, λ e. refl)
option-exact d None (Some y) = (λ e. cc, λ e. cc)
option-exact d (Some x) None = (λ e. cc, λ e. cc)
option-exact d (Some x) (Some y) = (λ e. ap Some ((d x y).0 e), λ e. (d x y).1 (cc))

list-exact : {A : Type 0} {E : A → A → Bool} → ((a b : A) → Decides (E a b) (a ≡ b)) → (x y : Entries A) → Decides (pointwise E x.entries y.entries) (x ≡ y)
list-exact {A} d x y =
    (λ e i. record { entries = (pointwise_decides d x.entries y.entries).0 e i }, λ e. (pointwise_decides d x.entries y.entries).1 (ap (λ (z : Entries A). z.entries) e))

power-one : (a b : PowFunction) → a ≡ b
power-one Generic Generic = refl

power-exact : (a b : PowFunction) → Decides true (a ≡ b)
power-exact a b = (λ e. power-one a b, λ e. refl)

rank-exact : (x y : RankOptions) → Decides (rank_eq.it x y) (x ≡ y)
rank-exact x y =
    let m = bare RankMethod tt x.method y.method in
    let d = booleans_Decides x.descending y.descending in (
      λ e i. record { method = m.0 (both (sameb RankMethod x.method y.method) _ e).0 i; descending = d.0 (both (sameb RankMethod x.method y.method) _ e).1 i },
      λ e. joint _ _ (m.1 (ap (λ (z : RankOptions). z.method) e)) (d.1 (ap (λ (z : RankOptions). z.descending) e)),
    )

dimension-exact : (x y : ReshapeDimension) → Decides (dimension_eq.it x y) (x ≡ y)
dimension-exact x y = exact dimension_enum _ (none, (one unsigned_Decides, tt)) x y

strategy-exact : (x y : FillNullStrategy) → Decides (strategy_eq.it x y) (x ≡ y)
strategy-exact x y = exact strategy_enum _ (one (option-exact unsigned_Decides), (one (option-exact unsigned_Decides), (none, (none, (none, (none, (none, (none, (none, tt))))))))) x y

boolean-exact : (x y : BooleanFunction) → Decides (boolean_eq.it x y) (x ≡ y)
boolean-exact x y = exact boolean_enum _ (one booleans_Decides, (one booleans_Decides, (none, (none, (none, (none, (none, (none, (none, (none, (none, (none, (one (bare ClosedInterval tt), (none, (none, (none, (none, tt))))))))))))))))) x y

-- Two functions are equal exactly where their variants and all their fields are.
pub function-exact : (x y : FunctionExpr) → Decides (function_eq.it x y) (x ≡ y)
function-exact x y =
    exact function_enum _ (
      one boolean-exact,
      (
        one (bare BitwiseFunction tt),
        (
          none,
          (
            none,
            (
              none,
              (
                none,
                (
                  none,
                  (
                    none,
                    (
                      none,
                      (
                        none,
                        (
                          more booleans_Decides (one booleans_Decides),
                          (
                            one (bare FusedOperator tt),
                            (
                              none,
                              (
                                none,
                                (
                                  one booleans_Decides,
                                  (
                                    one booleans_Decides,
                                    (
                                      one booleans_Decides,
                                      (
                                        none,
                                        (
                                          none,
                                          (
                                            none,
                                            (
                                              more unsigned_Decides (more unsigned_Decides (more unsigned_Decides (one unsigned_Decides))),
                                              (
                                                none,
                                                (
                                                  none,
                                                  (
                                                    one (bare SearchSortedSide tt),
                                                    (
                                                      one power-exact,
                                                      (
                                                        none,
                                                        (
                                                          none,
                                                          (
                                                            none,
                                                            (
                                                              none,
                                                              (
                                                                one booleans_Decides,
                                                                (
                                                                  more booleans_Decides (one booleans_Decides),
                                                                  (
                                                                    one (list-exact dimension-exact),
                                                                    (
                                                                      none,
                                                                      (
                                                                        none,
                                                                        (
                                                                          more rank-exact (one (option-exact unsigned_Decides)),
                                                                          (
                                                                            none,
                                                                            (
                                                                              none,
                                                                              (
                                                                                one booleans_Decides,
                                                                                (
                                                                                  one (list-exact booleans_Decides),
                                                                                  (
                                                                                    one booleans_Decides,
                                                                                    (
                                                                                      one booleans_Decides,
                                                                                      (
                                                                                        one booleans_Decides,
                                                                                        (
                                                                                          one booleans_Decides,
                                                                                          (
                                                                                            one booleans_Decides,
                                                                                            (
                                                                                              more booleans_Decides (more booleans_Decides (more (pointwise_decides unsigned_Decides) (one booleans_Decides))),
                                                                                              (
                                                                                                none,
                                                                                                (
                                                                                                  none,
                                                                                                  (
                                                                                                    none,
                                                                                                    (
                                                                                                      more signed_Decides (one (bare NullBehavior tt)),
                                                                                                      (
                                                                                                        none,
                                                                                                        (
                                                                                                          one (bare InterpolationMethod tt),
                                                                                                          (
                                                                                                            none,
                                                                                                            (
                                                                                                              one booleans_Decides,
                                                                                                              (
                                                                                                                one unsigned_Decides,
                                                                                                                (
                                                                                                                  one signed_Decides,
                                                                                                                  (
                                                                                                                    none,
                                                                                                                    (
                                                                                                                      none,
                                                                                                                      (
                                                                                                                        none,
                                                                                                                        (
                                                                                                                          none,
                                                                                                                          (
                                                                                                                            one booleans_Decides,
                                                                                                                            (
                                                                                                                              none,
                                                                                                                              (
                                                                                                                                none,
                                                                                                                                (
                                                                                                                                  none,
                                                                                                                                  (
                                                                                                                                    none,
                                                                                                                                    (
                                                                                                                                      none,
                                                                                                                                      (
                                                                                                                                        one (bare IsSorted tt),
                                                                                                                                        (
                                                                                                                                          one (option-exact unsigned_Decides),
                                                                                                                                          (
                                                                                                                                            one (option-exact unsigned_Decides),
                                                                                                                                            (
                                                                                                                                              none,
                                                                                                                                              (
                                                                                                                                                one (option-exact (same-decides the_row.coded)),
                                                                                                                                                (
                                                                                                                                                  more unsigned_Decides (one unsigned_Decides),
                                                                                                                                                  (
                                                                                                                                                    one booleans_Decides,
                                                                                                                                                    (
                                                                                                                                                      none,
                                                                                                                                                      (one strategy-exact, tt),
                                                                                                                                                    ),
                                                                                                                                                  ),
                                                                                                                                                ),
                                                                                                                                              ),
                                                                                                                                            ),
                                                                                                                                          ),
                                                                                                                                        ),
                                                                                                                                      ),
                                                                                                                                    ),
                                                                                                                                  ),
                                                                                                                                ),
                                                                                                                              ),
                                                                                                                            ),
                                                                                                                          ),
                                                                                                                        ),
                                                                                                                      ),
                                                                                                                    ),
                                                                                                                  ),
                                                                                                                ),
                                                                                                              ),
                                                                                                            ),
                                                                                                          ),
                                                                                                        ),
                                                                                                      ),
                                                                                                    ),
                                                                                                  ),
                                                                                                ),
                                                                                              ),
                                                                                            ),
                                                                                          ),
                                                                                        ),
                                                                                      ),
                                                                                    ),
                                                                                  ),
                                                                                ),
                                                                              ),
                                                                            ),
                                                                          ),
                                                                        ),
                                                                      ),
                                                                    ),
                                                                  ),
                                                                ),
                                                              ),
                                                            ),
                                                          ),
                                                        ),
                                                      ),
                                                    ),
                                                  ),
                                                ),
                                              ),
                                            ),
                                          ),
                                        ),
                                      ),
                                    ),
                                  ),
                                ),
                              ),
                            ),
                          ),
                        ),
                      ),
                    ),
                  ),
                ),
              ),
            ),
          ),
        ),
      ),
    )
    x y
