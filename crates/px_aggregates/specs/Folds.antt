-- One pass over numbers.
use Rattle.std.specs.Prelude.{ℕ, ℤ, List, [], ◌∷◌, length}
use Rattle.std.specs.List.{fold, items_where_true}
use Rattle.px_types.specs.Integers.{into}
use Rattle.px_types.specs.declared.value_type.ValueType.{ValueType}
use Rattle.px_arrays.specs.BitmapOf.{bits_of}

-- f of a number and each number of a list in turn, which is taken into the type before
abbrev pub fold_into : ValueType → (ℤ → ℤ → ℤ) → ℤ → List ℤ → ℤ
fold_into value_type f start numbers = fold (λ x y. f x (into value_type y)) start numbers

-- the numbers whose bit of the words is set
abbrev pub set_numbers : List ℕ → List ℤ → List ℤ
set_numbers words numbers = items_where_true (bits_of words (length numbers)) numbers
