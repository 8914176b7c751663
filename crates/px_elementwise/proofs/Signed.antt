-- Signs of numbers.
use Rattle.std.proofs.Common.{ℤ, pos, negsuc, zero, suc, lit<}
use Rattle.std.specs.Int.{w64}
use Rattle.std.proofs.lemmas.Int.{fits_signed_from_abs}
use Rattle.px_types.specs.Integers.{InRange}
use Rattle.px_types.specs.declared.value_type.ValueType.TheVariants.{Int64}
use Rattle.px_semantics.specs.Bounds.{sign_of}

-- a sign is a number of 64 bits
pub sign_inside : (z : ℤ) → InRange Int64 (sign_of z)
sign_inside (pos zero) = fits_signed_from_abs w64 (pos 0) (lit< tt)
sign_inside (pos (suc n)) = fits_signed_from_abs w64 (pos 1) (lit< tt)
sign_inside (negsuc n) = fits_signed_from_abs w64 (negsuc 0) (lit< tt)
