-- Sums and products that are taken into a type on the way.
use Rattle.std.proofs.Common.{◌≡◌, ◌∙◌, ◌<◌, ◌^◌, ◌≤ℤ◌, ◌<ℤ◌, ◌+ℤ◌, ◌*ℤ◌, ℕ, ℤ, pos, negsuc, List, [], ◌∷◌, sym, ap, refl, arith, mod-eq_of_lt, unsigned_abs}
use Rattle.std.specs.List.{fold}
use Rattle.std.specs.Int.{Width, cast_signed, cast_unsigned, int_rem_euclid, int_wrap, w8, w16, w32, w64}
use mir.Val.{bits}
use Rattle.std.proofs.lemmas.Int.{ints, of_z-to_z, int_wrap-mul_left, int_wrap-mul_right}
use Rattle.std.proofs.lemmas.Nat.{pow_pos}
use Rattle.px_types.specs.Integers.{into}
use Rattle.px_types.proofs.Residues.{residue_within}
use Rattle.px_types.proofs.Wrapping.{into-add_left, into-add_right}
use Rattle.px_types.specs.declared.value_type.ValueType.{ValueType}
use Rattle.px_types.specs.declared.value_type.ValueType.TheVariants.{Null, Boolean, String, UInt8, UInt16, UInt32, UInt64, Int8, Int16, Int32, Int64}
use Rattle.px_semantics.specs.Aggregates.{sum_of, product_of}
use Rattle.px_aggregates.specs.Folds.{fold_into}

residue_same : (z : ℤ) (n : ℕ) → (pos 0 ≤ℤ z) × (z <ℤ pos n) → int_rem_euclid z (pos n) ≡ z
residue_same (pos a) n h = ap pos (mod-eq_of_lt (omega (arith, ints)))
residue_same (negsuc a) n h = absurd (omega (arith, ints))

natural : (z : ℤ) → pos 0 ≤ℤ z → pos (unsigned_abs z) ≡ z
natural (pos a) h = refl
natural (negsuc a) h = absurd (omega (arith, ints))

natural_below : (z : ℤ) (n : ℕ) → (pos 0 ≤ℤ z) × (z <ℤ pos n) → unsigned_abs z < n
natural_below (pos a) n h = omega (arith, ints)
natural_below (negsuc a) n h = absurd (omega (arith, ints))

-- the residue is the number without sign that has the wrapped number's bits
residue_of_wrapped : (w : Width) (z : ℤ) → int_rem_euclid z (pos (2 ^ bits w)) ≡ pos (cast_unsigned w (int_wrap w z))
unfolding int_wrap
residue_of_wrapped w z =
    let within = residue_within z (2 ^ bits w) (pow_pos (bits w)) in
    let r = int_rem_euclid z (pos (2 ^ bits w)) in
    sym (natural r within.0) ∙ sym (ap pos (of_z-to_z w (unsigned_abs r) (natural_below r (2 ^ bits w) within)))

wrapped_residue : (w : Width) (z : ℤ) → int_wrap w (int_rem_euclid z (pos (2 ^ bits w))) ≡ int_wrap w z
unfolding int_wrap
wrapped_residue w z =
    ap (λ r. cast_signed w (unsigned_abs r)) (residue_same (int_rem_euclid z (pos (2 ^ bits w))) (2 ^ bits w) (residue_within z (2 ^ bits w) (pow_pos (bits w))))

same_residue : (w : Width) (a b : ℤ) → int_wrap w a ≡ int_wrap w b → int_rem_euclid a (pos (2 ^ bits w)) ≡ int_rem_euclid b (pos (2 ^ bits w))
same_residue w a b e = residue_of_wrapped w a ∙ ap (λ z. pos (cast_unsigned w z)) e ∙ sym (residue_of_wrapped w b)

residue-mul_right : (w : Width) (a b : ℤ) → int_rem_euclid (a *ℤ int_rem_euclid b (pos (2 ^ bits w))) (pos (2 ^ bits w)) ≡ int_rem_euclid (a *ℤ b) (pos (2 ^ bits w))
residue-mul_right w a b =
    let r = int_rem_euclid b (pos (2 ^ bits w)) in
    same_residue w (a *ℤ r) (a *ℤ b) (sym (int_wrap-mul_right w a r) ∙ ap (λ z. int_wrap w (a *ℤ z)) (wrapped_residue w b) ∙ int_wrap-mul_right w a b)

residue-mul_left : (w : Width) (a b : ℤ) → int_rem_euclid (int_rem_euclid a (pos (2 ^ bits w)) *ℤ b) (pos (2 ^ bits w)) ≡ int_rem_euclid (a *ℤ b) (pos (2 ^ bits w))
residue-mul_left w a b =
    let r = int_rem_euclid a (pos (2 ^ bits w)) in
    same_residue w (r *ℤ b) (a *ℤ b) (sym (int_wrap-mul_left w r b) ∙ ap (λ z. int_wrap w (z *ℤ b)) (wrapped_residue w a) ∙ int_wrap-mul_left w a b)

pub into-mul_right : (value_type : ValueType) (a b : ℤ) → into value_type (a *ℤ into value_type b) ≡ into value_type (a *ℤ b)
into-mul_right UInt8 a b = residue-mul_right w8 a b
into-mul_right UInt16 a b = residue-mul_right w16 a b
into-mul_right UInt32 a b = residue-mul_right w32 a b
into-mul_right UInt64 a b = residue-mul_right w64 a b
into-mul_right Int8 a b = int_wrap-mul_right w8 a b
into-mul_right Int16 a b = int_wrap-mul_right w16 a b
into-mul_right Int32 a b = int_wrap-mul_right w32 a b
into-mul_right Int64 a b = int_wrap-mul_right w64 a b
into-mul_right Null a b = refl
into-mul_right Boolean a b = refl
into-mul_right String a b = refl

pub into-mul_left : (value_type : ValueType) (a b : ℤ) → into value_type (into value_type a *ℤ b) ≡ into value_type (a *ℤ b)
into-mul_left UInt8 a b = residue-mul_left w8 a b
into-mul_left UInt16 a b = residue-mul_left w16 a b
into-mul_left UInt32 a b = residue-mul_left w32 a b
into-mul_left UInt64 a b = residue-mul_left w64 a b
into-mul_left Int8 a b = int_wrap-mul_left w8 a b
into-mul_left Int16 a b = int_wrap-mul_left w16 a b
into-mul_left Int32 a b = int_wrap-mul_left w32 a b
into-mul_left Int64 a b = int_wrap-mul_left w64 a b
into-mul_left Null a b = refl
into-mul_left Boolean a b = refl
into-mul_left String a b = refl

-- what is taken into the type at each step is what is taken into it at the end
folded_into : (k : ValueType) (f : ℤ → ℤ → ℤ) → ((a b : ℤ) → into k (f (into k a) b) ≡ into k (f a b)) → ((a b : ℤ) → into k (f a (into k b)) ≡ into k (f a b))
    → (a : ℤ) (zs : List ℤ) → fold_into k (λ x y. into k (f x y)) (into k a) zs ≡ into k (fold f a zs)
folded_into k f left right a [] = refl
folded_into k f left right a (z ∷ zs) =
    ap (λ s. fold_into k (λ x y. into k (f x y)) s zs) (right (into k a) z ∙ left a z) ∙ folded_into k f left right (f a z) zs

pub sum_into : (k : ValueType) (zs : List ℤ) → fold_into k (λ x y. into k (x +ℤ y)) (into k (pos 0)) zs ≡ into k (sum_of zs)
sum_into k zs = folded_into k (λ x y. x +ℤ y) (into-add_left k) (into-add_right k) (pos 0) zs

pub product_into : (k : ValueType) (zs : List ℤ) → fold_into k (λ x y. into k (x *ℤ y)) (into k (pos 1)) zs ≡ into k (product_of zs)
product_into k zs = folded_into k (λ x y. x *ℤ y) (into-mul_left k) (into-mul_right k) (pos 1) zs
