-- A product and a sum or a difference in one step, on rows of integers.
use Rattle.std.specs.Prelude.{ℤ, ◌+ℤ◌, ◌-ℤ◌, ◌*ℤ◌, List, [], ◌∷◌, length, Option, Some, None, option_map}
use Rattle.px_types.specs.declared.function.FusedOperator.{FusedOperator}
use Rattle.px_types.specs.declared.function.FusedOperator.TheVariants.{MultiplyAdd, SubMultiply, MultiplySub}
use Rattle.px_semantics.specs.Selections.{broadcast_length_three}
use Rattle.px_types.specs.Integers.{into}
use Rattle.px_semantics.specs.Rows.{IntegerValue, Row, TypedRows, stretch}
use Rattle.px_types.specs.declared.value_type.ValueType.{ValueType}

-- a form on integers
abbrev pub fused : FusedOperator → ℤ → ℤ → ℤ → ℤ
fused MultiplyAdd x y z = x +ℤ (y *ℤ z)
fused SubMultiply x y z = x -ℤ (y *ℤ z)
fused MultiplySub x y z = (x *ℤ y) -ℤ z

-- f of three rows of numbers, null where a row is null
abbrev pub lift_three : (ℤ → ℤ → ℤ → ℤ) → Row → Row → Row → Row
lift_three f (Some (IntegerValue x)) (Some (IntegerValue y)) (Some (IntegerValue z)) = Some (IntegerValue (f x y z))
lift_three f _ _ _ = None

-- a form on three rows of an integer type, taken into the type
abbrev pub fused_row : FusedOperator → ValueType → Row → Row → Row → Row
fused_row form value_type x y z = lift_three (λ a b c. into value_type (fused form a b c)) x y z

-- f row by row of three lists
abbrev pub zip3 : (Row → Row → Row → Row) → List Row → List Row → List Row → List Row
zip3 f (x ∷ xs) (y ∷ ys) (z ∷ zs) = f x y z ∷ zip3 f xs ys zs
zip3 f _ _ _ = []

-- f row by row of three lists, each broadcast to their common length; none where they do not broadcast
abbrev pub elementwise_three : (Row → Row → Row → Row) → List Row → List Row → List Row → Option (List Row)
elementwise_three f xs ys zs =
    option_map (λ n. zip3 f (stretch n xs) (stretch n ys) (stretch n zs)) (broadcast_length_three (length xs) (length ys) (length zs))

-- a form on three columns of one integer type
unfoldable pub fused_rows : FusedOperator → TypedRows → TypedRows → TypedRows → Option TypedRows
fused_rows form a b c =
    option_map (λ rows. record { value_type = a.value_type; rows = rows }) (elementwise_three (fused_row form a.value_type) a.rows b.rows c.rows)
