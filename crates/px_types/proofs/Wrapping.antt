-- What is taken into a type on the way changes nothing.
use Rattle.std.proofs.Common.{◌≡◌, ◌∙◌, ◌<◌, ◌^◌, ◌≤ℤ◌, ◌<ℤ◌, ◌-ℤ◌, ◌+ℤ◌, neg_ℤ, ℕ, ℤ, pos, negsuc, sym, ap, refl, arith, mod-eq_of_lt, unsigned_abs}
use Rattle.std.specs.Int.{Width, cast_signed, cast_unsigned, int_rem_euclid, int_wrap, w8, w16, w32, w64}
use mir.Val.{bits}
use Rattle.std.proofs.lemmas.Int.{ints, of_z-to_z, int_wrap-add_left, int_wrap-add_right, int_wrap-sub_right}
use Rattle.std.proofs.lemmas.Nat.{pow_pos}
use Rattle.px_types.specs.Integers.{into}
use Rattle.px_types.proofs.Residues.{residue_within}
use Rattle.px_types.specs.declared.value_type.ValueType.{ValueType}
use Rattle.px_types.specs.declared.value_type.ValueType.TheVariants.{Null, Boolean, String, UInt8, UInt16, UInt32, UInt64, Int8, Int16, Int32, Int64}

residue_same : (z : ℤ) (n : ℕ) → (pos 0 ≤ℤ z) × (z <ℤ pos n) → int_rem_euclid z (pos n) ≡ z
residue_same (pos a) n h = ap pos (mod-eq_of_lt (omega (arith, ints)))
residue_same (negsuc a) n h = absurd (omega (arith, ints))

natural : (z : ℤ) → pos 0 ≤ℤ z → pos (unsigned_abs z) ≡ z
natural (pos a) h = refl
natural (negsuc a) h = absurd (omega (arith, ints))

natural_below : (z : ℤ) (n : ℕ) → (pos 0 ≤ℤ z) × (z <ℤ pos n) → unsigned_abs z < n
natural_below (pos a) n h = omega (arith, ints)
natural_below (negsuc a) n h = absurd (omega (arith, ints))

-- the residue is the number without sign that has the wrapped number's bits
residue_of_wrapped : (w : Width) (z : ℤ) → int_rem_euclid z (pos (2 ^ bits w)) ≡ pos (cast_unsigned w (int_wrap w z))
unfolding int_wrap
residue_of_wrapped w z =
    let within = residue_within z (2 ^ bits w) (pow_pos (bits w)) in
    let r = int_rem_euclid z (pos (2 ^ bits w)) in
    sym (natural r within.0) ∙ sym (ap pos (of_z-to_z w (unsigned_abs r) (natural_below r (2 ^ bits w) within)))

wrapped_residue : (w : Width) (z : ℤ) → int_wrap w (int_rem_euclid z (pos (2 ^ bits w))) ≡ int_wrap w z
unfolding int_wrap
wrapped_residue w z =
    ap (λ r. cast_signed w (unsigned_abs r)) (residue_same (int_rem_euclid z (pos (2 ^ bits w))) (2 ^ bits w) (residue_within z (2 ^ bits w) (pow_pos (bits w))))

same_residue : (w : Width) (a b : ℤ) → int_wrap w a ≡ int_wrap w b → int_rem_euclid a (pos (2 ^ bits w)) ≡ int_rem_euclid b (pos (2 ^ bits w))
same_residue w a b e = residue_of_wrapped w a ∙ ap (λ z. pos (cast_unsigned w z)) e ∙ sym (residue_of_wrapped w b)

residue-add_right : (w : Width) (a b : ℤ) → int_rem_euclid (a +ℤ int_rem_euclid b (pos (2 ^ bits w))) (pos (2 ^ bits w)) ≡ int_rem_euclid (a +ℤ b) (pos (2 ^ bits w))
residue-add_right w a b =
    let r = int_rem_euclid b (pos (2 ^ bits w)) in
    same_residue w (a +ℤ r) (a +ℤ b) (sym (int_wrap-add_right w a r) ∙ ap (λ z. int_wrap w (a +ℤ z)) (wrapped_residue w b) ∙ int_wrap-add_right w a b)

residue-sub_right : (w : Width) (a b : ℤ) → int_rem_euclid (a -ℤ int_rem_euclid b (pos (2 ^ bits w))) (pos (2 ^ bits w)) ≡ int_rem_euclid (a -ℤ b) (pos (2 ^ bits w))
residue-sub_right w a b =
    let r = int_rem_euclid b (pos (2 ^ bits w)) in
    same_residue w (a -ℤ r) (a -ℤ b) (sym (int_wrap-sub_right w a r) ∙ ap (λ z. int_wrap w (a -ℤ z)) (wrapped_residue w b) ∙ int_wrap-sub_right w a b)

residue-add_left : (w : Width) (a b : ℤ) → int_rem_euclid (int_rem_euclid a (pos (2 ^ bits w)) +ℤ b) (pos (2 ^ bits w)) ≡ int_rem_euclid (a +ℤ b) (pos (2 ^ bits w))
residue-add_left w a b =
    let r = int_rem_euclid a (pos (2 ^ bits w)) in
    same_residue w (r +ℤ b) (a +ℤ b) (sym (int_wrap-add_left w r b) ∙ ap (λ z. int_wrap w (z +ℤ b)) (wrapped_residue w a) ∙ int_wrap-add_left w a b)

pub into-add_right : (value_type : ValueType) (a b : ℤ) → into value_type (a +ℤ into value_type b) ≡ into value_type (a +ℤ b)
into-add_right UInt8 a b = residue-add_right w8 a b
into-add_right UInt16 a b = residue-add_right w16 a b
into-add_right UInt32 a b = residue-add_right w32 a b
into-add_right UInt64 a b = residue-add_right w64 a b
into-add_right Int8 a b = int_wrap-add_right w8 a b
into-add_right Int16 a b = int_wrap-add_right w16 a b
into-add_right Int32 a b = int_wrap-add_right w32 a b
into-add_right Int64 a b = int_wrap-add_right w64 a b
into-add_right Null a b = refl
into-add_right Boolean a b = refl
into-add_right String a b = refl

pub into-add_left : (value_type : ValueType) (a b : ℤ) → into value_type (into value_type a +ℤ b) ≡ into value_type (a +ℤ b)
into-add_left UInt8 a b = residue-add_left w8 a b
into-add_left UInt16 a b = residue-add_left w16 a b
into-add_left UInt32 a b = residue-add_left w32 a b
into-add_left UInt64 a b = residue-add_left w64 a b
into-add_left Int8 a b = int_wrap-add_left w8 a b
into-add_left Int16 a b = int_wrap-add_left w16 a b
into-add_left Int32 a b = int_wrap-add_left w32 a b
into-add_left Int64 a b = int_wrap-add_left w64 a b
into-add_left Null a b = refl
into-add_left Boolean a b = refl
into-add_left String a b = refl

pub into-sub_right : (value_type : ValueType) (a b : ℤ) → into value_type (a -ℤ into value_type b) ≡ into value_type (a -ℤ b)
into-sub_right UInt8 a b = residue-sub_right w8 a b
into-sub_right UInt16 a b = residue-sub_right w16 a b
into-sub_right UInt32 a b = residue-sub_right w32 a b
into-sub_right UInt64 a b = residue-sub_right w64 a b
into-sub_right Int8 a b = int_wrap-sub_right w8 a b
into-sub_right Int16 a b = int_wrap-sub_right w16 a b
into-sub_right Int32 a b = int_wrap-sub_right w32 a b
into-sub_right Int64 a b = int_wrap-sub_right w64 a b
into-sub_right Null a b = refl
into-sub_right Boolean a b = refl
into-sub_right String a b = refl

pub into-sub_left : (value_type : ValueType) (a b : ℤ) → into value_type (into value_type a -ℤ b) ≡ into value_type (a -ℤ b)
into-sub_left value_type a b = into-add_left value_type a (neg_ℤ b)
