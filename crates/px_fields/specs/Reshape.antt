-- The type of rows in another shape.
use Rattle.std.specs.Prelude.{ℕ, ◌*◌, ◌/◌, ◌^◌, ◌==◌, nat_lt, Bool, true, false, List, [], ◌∷◌, count_by, Option, Some, None, option_map, if◌then◌else◌}
use Rattle.std.specs.List.{fold}
use Rattle.px_types.specs.declared.dtype.DataType.{DataType}
use Rattle.px_types.specs.declared.dtype.DataType.TheVariants as dtype
use Rattle.px_functions.specs.declared.small.ReshapeDimension.{ReshapeDimension}
use Rattle.px_functions.specs.declared.small.ReshapeDimension.TheVariants.{Infer, Specified}
use Rattle.px_fields.specs.TypeChanges.{or_type, inner_of, leaf, total_width}
use Rattle.px_functions.specs.SmallTypes.{size_of}

abbrev pub is_inferred : ReshapeDimension → Bool
is_inferred Infer = true
is_inferred (Specified _) = false

-- the product with one size more
abbrev pub times : ℕ → ReshapeDimension → ℕ
times product d = product * size_of 1 d

-- the product of the specified sizes
abbrev pub specified_product : List ReshapeDimension → ℕ
specified_product dimensions = fold times 1 dimensions

-- the number, where it is one of u64
abbrev pub in_u64 : ℕ → Option ℕ
in_u64 n = if nat_lt n (2 ^ 64) then Some n else None

-- the number, where it is one of u64 that divides
abbrev pub divisor : ℕ → Option ℕ
divisor n = if n == 0 then None else in_u64 n

abbrev pub quotient : Option ℕ → Option ℕ → Option ℕ
quotient (Some p) (Some q) = Some (p / q)
quotient _ _ = None

-- the size of the dimension that is inferred, and 0 where none is
abbrev pub inferred_size : List ReshapeDimension → DataType → ℕ → Option ℕ
inferred_size dimensions d count =
    if count == 0 then Some 0
    else (if count == 1 then quotient (in_u64 (total_width d)) (divisor (specified_product dimensions)) else None)

-- arrays of the type, of this size
abbrev pub array_of : ℕ → DataType → ReshapeDimension → DataType
array_of inferred inner d = dtype.Array inner (size_of inferred d)

-- arrays of arrays of the type
abbrev pub arrays_of : DataType → ℕ → List ReshapeDimension → DataType
arrays_of element inferred dimensions = fold (array_of inferred) element dimensions

-- the type of rows in this shape
abbrev pub reshaped : List ReshapeDimension → DataType → Option DataType
reshaped [] d = None
reshaped (one ∷ []) d = Some (or_type d (inner_of d))
reshaped (outer ∷ inner ∷ rest) d =
    option_map (λ size. arrays_of (leaf d) size (inner ∷ rest)) (inferred_size (outer ∷ inner ∷ rest) d (count_by is_inferred (outer ∷ inner ∷ rest)))
