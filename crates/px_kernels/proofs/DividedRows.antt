-- Rows of quotients and rests.
use Rattle.std.proofs.Common.{◌≡◌, ◌∙◌, inl, inr, ℕ, ℤ, pos, Bool, true, false, cond, not, ◌&&◌, List, [], ◌∷◌, map, length, sym, ap, refl, Some, None, is_some, option_map, get_or, replicate, zero, suc}
use Rattle.std.proofs.lemmas.List.{length-map}
use Rattle.std.specs.Simd.Lanes.{zip2}
use Rattle.px_semantics.specs.Arithmetic.{floor_quotient, floor_remainder, is_zero, lift_nonzero, nonzero_row, arith_row}
use Rattle.px_types.specs.Integers.{into}
use Rattle.px_types.specs.declared.operator.Operator.TheVariants.{Divide, FloorDivide, Modulus}
use Rattle.px_types.specs.declared.value_type.ValueType.{ValueType}
use Rattle.px_semantics.specs.Rows.{Row, BooleanValue, StringValue, IntegerValue, entry, lift, broadcast_length, stretch, elementwise}
use Rattle.px_arrays.proofs.Entries.{lift_entries}
use Rattle.px_semantics.proofs.Joins.{stretch_one, stretch_other}
use Rattle.px_semantics.proofs.Joining.{option_same}
use Rattle.px_semantics.proofs.LawLemmas.{by_eq}
use Rattle.px_integers.specs.Quotients.{quotient_of, remainder_of}
use Rattle.px_kernels.proofs.TestRows.{zip2_same}

first : (h : Row → Row) → h None ≡ None → (ys : List Row) → get_or (map h ys) 0 None ≡ h (get_or ys 0 None)
first h none [] = sym none
first h none (y ∷ ys) = refl

repeated : (h : Row → Row) (n : ℕ) (y : Row) → map h (replicate n y) ≡ replicate n (h y)
repeated h zero y = refl
repeated h (suc n) y = ap (λ l. h y ∷ l) (repeated h n y)

by_length : (h : Row → Row) → h None ≡ None → (n : ℕ) (ys : List Row) → stretch n (map h ys) ≡ map h (stretch n ys)
by_length h none n ys = elim (by_eq (length ys) 1) [
  | inl e ↦ stretch_one (map h ys) n (length-map ys h ∙ e) ∙ ap (replicate n) (first h none ys) ∙ sym (repeated h n (get_or ys 0 None)) ∙ sym (ap (map h) (stretch_one ys n e))
  | inr d ↦ stretch_other (map h ys) n (λ e. d (sym (length-map ys h) ∙ e)) ∙ sym (ap (map h) (stretch_other ys n d))
]

zip2_map : (f : Row → Row → Row) (h : Row → Row) (xs ys : List Row) → zip2 f xs (map h ys) ≡ zip2 (λ x y. f x (h y)) xs ys
zip2_map f h [] ys = refl
zip2_map f h (x ∷ xs) [] = refl
zip2_map f h (x ∷ xs) (y ∷ ys) = ap (λ l. f x (h y) ∷ l) (zip2_map f h xs ys)

-- rows that are changed before an operation
pub rows_changed : (f : Row → Row → Row) (h : Row → Row) → h None ≡ None → (xs ys : List Row) → elementwise f xs (map h ys) ≡ elementwise (λ x y. f x (h y)) xs ys
rows_changed f h none xs ys =
    ap (λ m. option_map (λ n. zip2 f (stretch n xs) (stretch n (map h ys))) (broadcast_length (length xs) m)) (length-map ys h)
    ∙ option_same (λ n. zip2 f (stretch n xs) (stretch n (map h ys))) (λ n. zip2 (λ x y. f x (h y)) (stretch n xs) (stretch n ys))
    (λ n. ap (zip2 f (stretch n xs)) (by_length h none n ys) ∙ zip2_map f h (stretch n xs) (stretch n ys)) (broadcast_length (length xs) (length ys))

-- two operations that agree
pub rows_same_operation : (f g : Row → Row → Row) → ((x y : Row) → f x y ≡ g x y) → (xs ys : List Row) → elementwise f xs ys ≡ elementwise g xs ys
rows_same_operation f g h xs ys =
    option_same (λ n. zip2 f (stretch n xs) (stretch n ys)) (λ n. zip2 g (stretch n xs) (stretch n ys)) (λ n. zip2_same f g h (stretch n xs) (stretch n ys)) (broadcast_length (length xs) (length ys))

lift_cond : (f : ℤ → ℤ → ℤ) (x : Row) (c : Bool) (z : ℤ) → c ≡ is_zero z
    → lift (λ a b. cond (is_zero b) (pos 0) (f a b)) x (cond c None (Some (IntegerValue z))) ≡ lift f x (cond c None (Some (IntegerValue z)))
lift_cond f (Some (IntegerValue a)) true z e = refl
lift_cond f (Some (IntegerValue a)) false z e = ap (λ c. Some (IntegerValue (cond c (pos 0) (f a z)))) (sym e)
lift_cond f (Some (BooleanValue t)) true z e = refl
lift_cond f (Some (BooleanValue t)) false z e = refl
lift_cond f (Some (StringValue s)) true z e = refl
lift_cond f (Some (StringValue s)) false z e = refl
lift_cond f None true z e = refl
lift_cond f None false z e = refl

nonzero_lift : (f : ℤ → ℤ → ℤ) (x y : Row)
    → lift_nonzero (λ a b. cond (is_zero b) (pos 0) (f a b)) x y ≡ lift_nonzero f x y
nonzero_lift f x (Some (IntegerValue z)) = lift_cond f x (is_zero z) z refl
nonzero_lift f (Some (IntegerValue a)) (Some (BooleanValue t)) = refl
nonzero_lift f (Some (BooleanValue s)) (Some (BooleanValue t)) = refl
nonzero_lift f (Some (StringValue s)) (Some (BooleanValue t)) = refl
nonzero_lift f None (Some (BooleanValue t)) = refl
nonzero_lift f (Some (IntegerValue a)) (Some (StringValue t)) = refl
nonzero_lift f (Some (BooleanValue s)) (Some (StringValue t)) = refl
nonzero_lift f (Some (StringValue s)) (Some (StringValue t)) = refl
nonzero_lift f None (Some (StringValue t)) = refl
nonzero_lift f (Some (IntegerValue a)) None = refl
nonzero_lift f (Some (BooleanValue s)) None = refl
nonzero_lift f (Some (StringValue s)) None = refl
nonzero_lift f None None = refl

-- the rows of quotients, and of rests
pub quotient_rows : (value_type : ValueType) (xs ys : List Row) → elementwise (lift_nonzero (quotient_of value_type)) xs ys ≡ elementwise (arith_row Divide value_type) xs ys
quotient_rows value_type xs ys = rows_same_operation (lift_nonzero (quotient_of value_type)) (arith_row Divide value_type) (nonzero_lift (λ a b. into value_type (floor_quotient a b))) xs ys

pub floor_rows : (value_type : ValueType) (xs ys : List Row) → elementwise (lift_nonzero (quotient_of value_type)) xs ys ≡ elementwise (arith_row FloorDivide value_type) xs ys
floor_rows value_type xs ys = rows_same_operation (lift_nonzero (quotient_of value_type)) (arith_row FloorDivide value_type) (nonzero_lift (λ a b. into value_type (floor_quotient a b))) xs ys

pub rest_rows : (value_type : ValueType) (xs ys : List Row) → elementwise (lift_nonzero remainder_of) xs ys ≡ elementwise (arith_row Modulus value_type) xs ys
rest_rows value_type xs ys = rows_same_operation (lift_nonzero remainder_of) (arith_row Modulus value_type) (nonzero_lift floor_remainder) xs ys

kept_some : (b : Bool) (z : ℤ) → not b ≡ is_some (cond b None (Some (IntegerValue z)))
kept_some true z = refl
kept_some false z = refl

nonzero_bit : (u : Bool) (z : ℤ) → u && not (is_zero z) ≡ is_some (nonzero_row (entry u z))
nonzero_bit true z = kept_some (is_zero z) z
nonzero_bit false z = refl

-- which rows are numbers other than 0, by their bits and their numbers
pub nonzero_bits : (us : List Bool) (zs : List ℤ) → zip2 (λ u v. u && v) us (map (λ z. not (is_zero z)) zs) ≡ map is_some (map nonzero_row (zip2 entry us zs))
nonzero_bits [] zs = refl
nonzero_bits (u ∷ us) [] = refl
nonzero_bits (u ∷ us) (z ∷ zs) = let here = nonzero_bit u z in let rest = nonzero_bits us zs in cc

kept_entry : (b : Bool) (z : ℤ) → entry (is_some (cond b None (Some (IntegerValue z)))) z ≡ cond b None (Some (IntegerValue z))
kept_entry true z = refl
kept_entry false z = refl

nonzero_entry : (u : Bool) (z : ℤ) → entry (is_some (nonzero_row (entry u z))) z ≡ nonzero_row (entry u z)
nonzero_entry true z = kept_entry (is_zero z) z
nonzero_entry false z = refl

nonzero_entries : (us : List Bool) (zs : List ℤ) → zip2 entry (map is_some (map nonzero_row (zip2 entry us zs))) zs ≡ map nonzero_row (zip2 entry us zs)
nonzero_entries [] zs = refl
nonzero_entries (u ∷ us) [] = refl
nonzero_entries (u ∷ us) (z ∷ zs) = let here = nonzero_entry u z in let rest = nonzero_entries us zs in cc

-- the rows that are not 0, by their numbers
pub nonzero_numbers : (rows : List Row) (zs : List ℤ) → zip2 entry (map is_some rows) zs ≡ rows → zip2 entry (map is_some (map nonzero_row rows)) zs ≡ map nonzero_row rows
nonzero_numbers rows zs shown =
    ap (λ l. zip2 entry (map is_some (map nonzero_row l)) zs) (sym shown) ∙ nonzero_entries (map is_some rows) zs ∙ ap (map nonzero_row) shown

-- the bitmaps and the numbers of a division, as rows
pub divided_made : (f : ℤ → ℤ → ℤ) (ps qs : List Row) (xs ys : List ℤ) → zip2 entry (map is_some ps) xs ≡ ps → zip2 entry (map is_some qs) ys ≡ qs
    → zip2 entry (zip2 (λ u v. u && v) (map is_some ps) (map is_some (map nonzero_row qs))) (zip2 f xs ys) ≡ zip2 (lift_nonzero f) ps qs
divided_made f ps qs xs ys p q =
    lift_entries f (map is_some ps) (map is_some (map nonzero_row qs)) xs ys
    ∙ ap (λ l. zip2 (lift f) l (zip2 entry (map is_some (map nonzero_row qs)) ys)) p
    ∙ ap (zip2 (lift f) ps) (nonzero_numbers qs ys q)
    ∙ zip2_map (lift f) nonzero_row ps qs
