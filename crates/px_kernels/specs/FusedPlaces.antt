-- A form of three numbers place by place, and which of three rows are not null.
use Rattle.std.specs.Prelude.{ℤ, Bool, ◌&&◌, List, [], ◌∷◌}
use Rattle.std.specs.Simd.Lanes.{zip2}
use Rattle.px_semantics.specs.Fused.{fused}
use Rattle.px_types.specs.Integers.{into}
use Rattle.px_types.specs.declared.function.FusedOperator.{FusedOperator}
use Rattle.px_types.specs.declared.value_type.ValueType.{ValueType}

-- the numbers, taken into the type
abbrev pub fused_places : FusedOperator → ValueType → List ℤ → List ℤ → List ℤ → List ℤ
fused_places form value_type (x ∷ xs) (y ∷ ys) (z ∷ zs) = into value_type (fused form x y z) ∷ fused_places form value_type xs ys zs
fused_places form value_type _ _ _ = []

-- the bits that all three have
abbrev pub all_valid : List Bool → List Bool → List Bool → List Bool
all_valid us vs ws = zip2 (λ u v. u && v) (zip2 (λ u v. u && v) us vs) ws
