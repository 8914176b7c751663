-- What the small types say.
use Rattle.std.specs.Prelude.{ℕ, ℤ, pos, negsuc, Bool, true, false}
use Rattle.px_functions.specs.declared.small.FillNullStrategy.{FillNullStrategy}
use Rattle.px_functions.specs.declared.small.FillNullStrategy.TheVariants.{Zero, One}
use Rattle.px_functions.specs.declared.small.ReshapeDimension.{ReshapeDimension}
use Rattle.px_functions.specs.declared.small.ReshapeDimension.TheVariants.{Infer, Specified}

-- each row is filled without a look at other rows
abbrev pub is_elementwise : FillNullStrategy → Bool
is_elementwise Zero = true
is_elementwise One = true
is_elementwise _ = false

-- the size, which a negative number leaves to be inferred
abbrev pub dimension_of : ℤ → ReshapeDimension
dimension_of (pos n) = Specified n
dimension_of (negsuc _) = Infer

-- the specified size, else the one that is inferred
abbrev pub size_of : ℕ → ReshapeDimension → ℕ
size_of inferred Infer = inferred
size_of inferred (Specified n) = n
