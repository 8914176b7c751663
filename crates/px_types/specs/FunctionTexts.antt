-- The texts of functions over bits and of fused operators.
use Rattle.std.specs.Prelude.{ℕ, List, codes}
use Rattle.px_types.specs.declared.function.BitwiseFunction.{BitwiseFunction}
use Rattle.px_types.specs.declared.function.BitwiseFunction.TheVariants.{CountOnes, CountZeros, LeadingOnes, LeadingZeros, TrailingOnes, TrailingZeros, And, Or, Xor}
use Rattle.px_types.specs.declared.function.FusedOperator.{FusedOperator}
use Rattle.px_types.specs.declared.function.FusedOperator.TheVariants.{MultiplyAdd, SubMultiply, MultiplySub}

-- the text of a function over bits, which as an expression's function has `bitwise_` before it
unfoldable pub bitwise_text : BitwiseFunction → List ℕ
bitwise_text CountOnes = codes "count_ones"
bitwise_text CountZeros = codes "count_zeros"
bitwise_text LeadingOnes = codes "leading_ones"
bitwise_text LeadingZeros = codes "leading_zeros"
bitwise_text TrailingOnes = codes "trailing_ones"
bitwise_text TrailingZeros = codes "trailing_zeros"
bitwise_text And = codes "and"
bitwise_text Or = codes "or"
bitwise_text Xor = codes "xor"

unfoldable pub fused_text : FusedOperator → List ℕ
fused_text MultiplyAdd = codes "fma"
fused_text SubMultiply = codes "fsm"
fused_text MultiplySub = codes "fms"
