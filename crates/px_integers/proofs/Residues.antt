-- Residues in signed types, by residues in the unsigned types of their width.
use Rattle.std.proofs.Common.{◌≡◌, ◌∙◌, ◌^◌, ℕ, ℤ, pos, ap}
use Rattle.std.specs.Prelude.{unsigned_abs, FitsSigned}
use Rattle.std.specs.Int.{Width, cast_signed, cast_unsigned, int_rem_euclid, int_wrap, w128}
use mir.Val.{bits}
use Rattle.std.proofs.lemmas.Int.{to_z-of_z, SFits-int_wrap}

pub signed_residue : (w : Width) (z r : ℤ) (n : ℕ) → FitsSigned w128 z → r ≡ cast_signed w n → pos n ≡ int_rem_euclid (cast_signed w128 (cast_unsigned w128 z)) (pos (2 ^ bits w))
    → cast_signed w (cast_unsigned w r) ≡ int_wrap w z
unfolding int_wrap
signed_residue w z r n f e p =
    ap (λ x. cast_signed w (cast_unsigned w x)) (e ∙ ap (λ m. cast_signed w (unsigned_abs m)) (p ∙ ap (λ m. int_rem_euclid m (pos (2 ^ bits w))) (to_z-of_z w128 z f)))
    ∙ to_z-of_z w (int_wrap w z) (SFits-int_wrap w z)
