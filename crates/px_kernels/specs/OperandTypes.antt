-- Operators and types that kernels take.
use Rattle.px_types.specs.declared.operator.Operator.{Operator}
use Rattle.px_types.specs.declared.operator.Operator.TheVariants.{Plus, Minus, Multiply}
use Rattle.px_types.specs.declared.value_type.ValueType.{ValueType}
use Rattle.px_types.specs.declared.value_type.ValueType.TheVariants.{Int8, Int16, Int32, Int64}

-- the operator is a sum, a difference or a product
abbrev pub IsRing : Operator → Type 0
IsRing Plus = Unit {0}
IsRing Minus = Unit {0}
IsRing Multiply = Unit {0}
IsRing _ = ⊥

-- the type is a signed integer type
abbrev pub IsSigned : ValueType → Type 0
IsSigned Int8 = Unit {0}
IsSigned Int16 = Unit {0}
IsSigned Int32 = Unit {0}
IsSigned Int64 = Unit {0}
IsSigned _ = ⊥
