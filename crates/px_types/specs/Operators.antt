-- The text of an operator.
use Rattle.std.specs.Prelude.{ℕ, List, codes}
use Rattle.px_types.specs.declared.operator.Operator.{Operator}
use Rattle.px_types.specs.declared.operator.Operator.TheVariants.{Eq, EqValidity, NotEq, NotEqValidity, Lt, LtEq, Gt, GtEq, Plus, Minus, Multiply, Divide, TrueDivide, FloorDivide, Modulus, And, Or, Xor, LogicalAnd, LogicalOr}

unfoldable pub operator_text : Operator → List ℕ
operator_text Eq = codes "=="
operator_text EqValidity = codes "eq_missing"
operator_text NotEq = codes "!="
operator_text NotEqValidity = codes "neq_missing"
operator_text Lt = codes "<"
operator_text LtEq = codes "<="
operator_text Gt = codes ">"
operator_text GtEq = codes ">="
operator_text Plus = codes "+"
operator_text Minus = codes "-"
operator_text Multiply = codes "*"
operator_text Divide = codes "/"
operator_text TrueDivide = codes "true_div"
operator_text FloorDivide = codes "//"
operator_text Modulus = codes "%"
operator_text And = codes "&"
operator_text Or = codes "|"
operator_text Xor = codes "^"
operator_text LogicalAnd = codes "&&"
operator_text LogicalOr = codes "||"
