-- Laws of fused arithmetic: two steps give what one gives.
use Rattle.std.specs.Prelude.{◌≡◌, option_and_then}
use Rattle.px_semantics.specs.Arithmetic.{arith_row, arith_rows}
use Rattle.px_types.specs.declared.function.FusedOperator.TheVariants.{MultiplyAdd, SubMultiply, MultiplySub}
use Rattle.px_semantics.specs.Fused.{fused_row, fused_rows}
use Rattle.px_semantics.specs.Rows.{Row, TypedRows}
use Rattle.px_types.specs.declared.operator.Operator.TheVariants.{Plus, Minus, Multiply}
use Rattle.px_types.specs.declared.value_type.ValueType.{ValueType}

-- a + b*c on three rows
abbrev pub SumWithProductFuses : Type 0
SumWithProductFuses = (value_type : ValueType) (a b c : Row) → arith_row Plus value_type a (arith_row Multiply value_type b c) ≡ fused_row MultiplyAdd value_type a b c

-- a*b + c
abbrev pub ProductWithSumFuses : Type 0
ProductWithSumFuses = (value_type : ValueType) (a b c : Row) → arith_row Plus value_type (arith_row Multiply value_type a b) c ≡ fused_row MultiplyAdd value_type c a b

-- a - b*c
abbrev pub DifferenceWithProductFuses : Type 0
DifferenceWithProductFuses = (value_type : ValueType) (a b c : Row) → arith_row Minus value_type a (arith_row Multiply value_type b c) ≡ fused_row SubMultiply value_type a b c

-- a*b - c
abbrev pub ProductWithDifferenceFuses : Type 0
ProductWithDifferenceFuses = (value_type : ValueType) (a b c : Row) → arith_row Minus value_type (arith_row Multiply value_type a b) c ≡ fused_row MultiplySub value_type a b c

-- three columns of one type
abbrev pub HaveOneType : TypedRows → TypedRows → TypedRows → Type 0
HaveOneType a b c = (a.value_type ≡ b.value_type) × (b.value_type ≡ c.value_type)

-- the same on three columns of any lengths: both answers are none where the lengths do not broadcast
abbrev pub SumWithProductFusesColumns : Type 0
SumWithProductFusesColumns = (a b c : TypedRows) → HaveOneType a b c → option_and_then (λ product. arith_rows Plus a product) (arith_rows Multiply b c) ≡ fused_rows MultiplyAdd a b c

abbrev pub ProductWithSumFusesColumns : Type 0
ProductWithSumFusesColumns = (a b c : TypedRows) → HaveOneType a b c → option_and_then (λ product. arith_rows Plus product c) (arith_rows Multiply a b) ≡ fused_rows MultiplyAdd c a b

abbrev pub DifferenceWithProductFusesColumns : Type 0
DifferenceWithProductFusesColumns = (a b c : TypedRows) → HaveOneType a b c → option_and_then (λ product. arith_rows Minus a product) (arith_rows Multiply b c) ≡ fused_rows SubMultiply a b c

abbrev pub ProductWithDifferenceFusesColumns : Type 0
ProductWithDifferenceFusesColumns = (a b c : TypedRows) → HaveOneType a b c → option_and_then (λ product. arith_rows Minus product c) (arith_rows Multiply a b) ≡ fused_rows MultiplySub a b c
