-- What a list of numbers that may be null keeps.
use Rattle.std.specs.Prelude.{◌≡◌, ℤ, Bool, List, length}
use Rattle.std.specs.Simd.Lanes.{Each1}
use Rattle.px_types.specs.Integers.{InRange}
use Rattle.px_types.specs.declared.value_type.ValueType.{ValueType}

-- a validity for each number, and each number one of the type's
pub record IsIntegerArray (value_type : ValueType) (valid : List Bool) (numbers : List ℤ) : Type 0 where
  pub same_length : length valid ≡ length numbers
  pub inside : Each1 (InRange value_type) numbers
