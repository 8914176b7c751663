-- Rows of a product and a sum or a difference, in one pass and in two steps.
use Rattle.std.proofs.Common.{◌≡◌, ◌∙◌, ℤ, Bool, true, false, ◌&&◌, ℕ, List, [], ◌∷◌, length, map, refl, sym, ap, arith, Option, Some, None, option_map, option_and_then, is_some}
use Rattle.std.specs.List.{zip}
use Rattle.std.specs.Simd.Lanes.{zip2, Each1}
use Rattle.std.proofs.lemmas.List.{length-map}
use Rattle.std.proofs.lemmas.Simd.{length-zip2}
use Rattle.px_semantics.specs.Arithmetic.{arith_row}
use Rattle.px_semantics.specs.Selections.{broadcast_length_three}
use Rattle.px_semantics.specs.Fused.{fused, fused_row, fused_rows, zip3, elementwise_three}
use Rattle.px_types.specs.Integers.{into}
use Rattle.px_semantics.specs.Rows.{Row, TypedRows, entry, broadcast_length, stretch, elementwise}
use Rattle.px_types.specs.declared.function.FusedOperator.{FusedOperator}
use Rattle.px_types.specs.declared.function.FusedOperator.TheVariants.{MultiplyAdd, SubMultiply, MultiplySub}
use Rattle.px_types.specs.declared.operator.Operator.TheVariants.{Plus, Minus, Multiply}
use Rattle.px_types.specs.declared.value_type.ValueType.{ValueType}
use Rattle.px_semantics.proofs.Joins.{broadcast_same, stretch_whole}
use Rattle.px_semantics.proofs.FusedRows.{sum_with_product, difference_with_product, product_with_difference, two_steps, two_steps_left, three_turned}
use Rattle.px_semantics.proofs.Joining.{of_type}
use Rattle.std.specs.Prelude.{Result, Ok, Err, IfOk}
use Rattle.px_base.specs.Answer.{GivesOr}
use Rattle.px_base.specs.declared.error.PlanError.{PlanError}
use Rattle.px_base.specs.declared.error.PlanError.TheVariants.{ShapeMismatch}
use Rattle.px_column.specs.ColumnOf.{type_of, rows_of}
use Rattle.px_column.specs.declared.buffer.Buffer.{Buffer}
use Rattle.px_column.specs.Buffers.{values_of}
use Rattle.px_kernels.proofs.KernelRows.{refused}
use Rattle.px_kernels.specs.FusedPlaces.{all_valid, fused_places}

-- what one pass over three lists gives
pub fused_maps : {A : Type 0} (n : A → ℤ) (form : FusedOperator) (value_type : ValueType) (xs ys zs : List A)
    → map (λ (p : (A × A) × A). into value_type (fused form (n p.0.0) (n p.0.1) (n p.1))) (zip (zip xs ys) zs) ≡ fused_places form value_type (map n xs) (map n ys) (map n zs)
fused_maps n form value_type [] ys zs = refl
fused_maps n form value_type (x ∷ xs) [] zs = refl
fused_maps n form value_type (x ∷ xs) (y ∷ ys) [] = refl
fused_maps n form value_type (x ∷ xs) (y ∷ ys) (z ∷ zs) = ap (λ l. into value_type (fused form (n x) (n y) (n z)) ∷ l) (fused_maps n form value_type xs ys zs)

fused_entry : (form : FusedOperator) (value_type : ValueType) (u v w : Bool) (x y z : ℤ) → entry ((u && v) && w) (into value_type (fused form x y z)) ≡ fused_row form value_type (entry u x) (entry v y) (entry w z)
fused_entry form value_type true true true x y z = refl
fused_entry form value_type true true false x y z = refl
fused_entry form value_type true false w x y z = refl
fused_entry form value_type false v w x y z = refl

-- the bitmaps and the numbers apart
fused_entries : (form : FusedOperator) (value_type : ValueType) (us vs ws : List Bool) (xs ys zs : List ℤ)
    → zip2 entry (all_valid us vs ws) (fused_places form value_type xs ys zs) ≡ zip3 (fused_row form value_type) (zip2 entry us xs) (zip2 entry vs ys) (zip2 entry ws zs)
fused_entries form value_type [] vs ws xs ys zs = refl
fused_entries form value_type (u ∷ us) [] ws [] ys zs = refl
fused_entries form value_type (u ∷ us) [] ws (x ∷ xs) ys zs = refl
fused_entries form value_type (u ∷ us) (v ∷ vs) [] [] ys zs = refl
fused_entries form value_type (u ∷ us) (v ∷ vs) [] (x ∷ xs) [] zs = refl
fused_entries form value_type (u ∷ us) (v ∷ vs) [] (x ∷ xs) (y ∷ ys) zs = refl
fused_entries form value_type (u ∷ us) (v ∷ vs) (w ∷ ws) [] ys zs = refl
fused_entries form value_type (u ∷ us) (v ∷ vs) (w ∷ ws) (x ∷ xs) [] zs = refl
fused_entries form value_type (u ∷ us) (v ∷ vs) (w ∷ ws) (x ∷ xs) (y ∷ ys) [] = refl
fused_entries form value_type (u ∷ us) (v ∷ vs) (w ∷ ws) (x ∷ xs) (y ∷ ys) (z ∷ zs) =
    let here = fused_entry form value_type u v w x y z in
    let rest = fused_entries form value_type us vs ws xs ys zs in
    cc

length-fused : (form : FusedOperator) (value_type : ValueType) (xs ys zs : List ℤ) → length xs ≡ length ys → length ys ≡ length zs → length (fused_places form value_type xs ys zs) ≡ length xs
length-fused form value_type [] ys zs h k = refl
length-fused form value_type (x ∷ xs) [] zs h k = cc
length-fused form value_type (x ∷ xs) (y ∷ ys) [] h k = cc
length-fused form value_type (x ∷ xs) (y ∷ ys) (z ∷ zs) h k = let rest = length-fused form value_type xs ys zs (omega arith) (omega arith) in omega arith

length-validity_of : (us vs ws : List Bool) → length us ≡ length vs → length vs ≡ length ws → length (all_valid us vs ws) ≡ length us
length-validity_of us vs ws h k =
    let pair = length-zip2 (λ u v. u && v) us vs h in
    length-zip2 (λ u v. u && v) (zip2 (λ u v. u && v) us vs) ws (pair ∙ h ∙ k) ∙ pair

-- as many bits as numbers
pub fused_long : {A : Type 0} (n : A → ℤ) (form : FusedOperator) (value_type : ValueType) (ps qs ss : List Row) (xs ys zs rs : List A) (valid : List Bool)
    → length ps ≡ length qs → length qs ≡ length ss → length xs ≡ length ps → length ys ≡ length qs → length zs ≡ length ss
    → valid ≡ all_valid (map is_some ps) (map is_some qs) (map is_some ss) → map n rs ≡ fused_places form value_type (map n xs) (map n ys) (map n zs)
    → length valid ≡ length (map n rs)
fused_long n form value_type ps qs ss xs ys zs rs valid h k p q r validity_of numbers =
    let seen = λ (l : List Row). length-map l is_some in
    let x = length-map xs n in
    let y = length-map ys n in
    let z = length-map zs n in
    ap length validity_of ∙ length-validity_of (map is_some ps) (map is_some qs) (map is_some ss) (seen ps ∙ h ∙ sym (seen qs)) (seen qs ∙ k ∙ sym (seen ss)) ∙ seen ps ∙ sym p ∙ sym x
    ∙ sym (ap length numbers ∙ length-fused form value_type (map n xs) (map n ys) (map n zs) (x ∙ p ∙ h ∙ sym q ∙ sym y) (y ∙ q ∙ k ∙ sym r ∙ sym z))

-- each number is taken into the type
pub fused_inside : (P : ℤ → Type 0) (form : FusedOperator) (value_type : ValueType) → ((z : ℤ) → P (into value_type z)) → (xs ys zs : List ℤ) → Each1 P (fused_places form value_type xs ys zs)
fused_inside P form value_type h [] ys zs = tt
fused_inside P form value_type h (x ∷ xs) [] zs = tt
fused_inside P form value_type h (x ∷ xs) (y ∷ ys) [] = tt
fused_inside P form value_type h (x ∷ xs) (y ∷ ys) (z ∷ zs) = (h (fused form x y z), fused_inside P form value_type h xs ys zs)

-- the bitmaps and the numbers of one pass, as rows
pub fused_made : (form : FusedOperator) (value_type : ValueType) (ps qs ss : List Row) (xs ys zs rs : List ℤ) (valid : List Bool)
    → zip2 entry (map is_some ps) xs ≡ ps → zip2 entry (map is_some qs) ys ≡ qs → zip2 entry (map is_some ss) zs ≡ ss
    → valid ≡ all_valid (map is_some ps) (map is_some qs) (map is_some ss) → rs ≡ fused_places form value_type xs ys zs
    → zip2 entry valid rs ≡ zip3 (fused_row form value_type) ps qs ss
fused_made form value_type ps qs ss xs ys zs rs valid p q r validity_of numbers =
    ap (λ l. zip2 entry l rs) validity_of ∙ ap (zip2 entry (all_valid (map is_some ps) (map is_some qs) (map is_some ss))) numbers
    ∙ fused_entries form value_type (map is_some ps) (map is_some qs) (map is_some ss) xs ys zs
    ∙ ap (λ l. zip3 (fused_row form value_type) l (zip2 entry (map is_some qs) ys) (zip2 entry (map is_some ss) zs)) p
    ∙ ap (λ l. zip3 (fused_row form value_type) ps l (zip2 entry (map is_some ss) zs)) q
    ∙ ap (zip3 (fused_row form value_type) ps qs) r

three_same : (k m n : ℕ) → k ≡ m → m ≡ n → broadcast_length_three k m n ≡ Some k
three_same k m n h e = ap (option_and_then (λ l. broadcast_length k l)) (broadcast_same m n e) ∙ broadcast_same k m h

-- three lists of one length broadcast to it
pub three_whole : (h : Row → Row → Row → Row) (xs ys zs : List Row) → length xs ≡ length ys → length ys ≡ length zs → Some (zip3 h xs ys zs) ≡ elementwise_three h xs ys zs
three_whole h xs ys zs e d =
    let n = length xs in
    sym (ap (option_map (λ n. zip3 h (stretch n xs) (stretch n ys) (stretch n zs))) (three_same n (length ys) (length zs) e d)
    ∙ ap (λ l. Some (zip3 h l (stretch n ys) (stretch n zs))) (stretch_whole xs n refl)
    ∙ ap (λ l. Some (zip3 h xs l (stretch n zs))) (stretch_whole ys n (sym e))
    ∙ ap (λ l. Some (zip3 h xs ys l)) (stretch_whole zs n (sym (e ∙ d))))

-- the second of two steps, after the rows of the first
pub after_first : (f : List Row → Option (List Row)) (first both : Option (List Row)) (rows : List Row) → option_and_then f first ≡ both → Some rows ≡ first → f rows ≡ both
after_first f first both rows law e = ap (option_and_then f) e ∙ law

-- where the first step has no rows, both have none
pub without_first : (f : List Row → Option (List Row)) (first both : Option (List Row)) → option_and_then f first ≡ both → first ≡ None → both ≡ None
without_first f first both law e = sym law ∙ ap (option_and_then f) e

pub plus_steps : (value_type : ValueType) (xs ys zs : List Row) → option_and_then (elementwise (arith_row Plus value_type) xs) (elementwise (arith_row Multiply value_type) ys zs) ≡ elementwise_three (fused_row MultiplyAdd value_type) xs ys zs
plus_steps value_type = two_steps (arith_row Plus value_type) (arith_row Multiply value_type) (fused_row MultiplyAdd value_type) (sum_with_product value_type)

pub minus_steps : (value_type : ValueType) (xs ys zs : List Row) → option_and_then (elementwise (arith_row Minus value_type) xs) (elementwise (arith_row Multiply value_type) ys zs) ≡ elementwise_three (fused_row SubMultiply value_type) xs ys zs
minus_steps value_type = two_steps (arith_row Minus value_type) (arith_row Multiply value_type) (fused_row SubMultiply value_type) (difference_with_product value_type)

pub product_steps : (value_type : ValueType) (xs ys zs : List Row) → option_and_then (λ p. elementwise (arith_row Minus value_type) p zs) (elementwise (arith_row Multiply value_type) xs ys) ≡ elementwise_three (fused_row MultiplySub value_type) xs ys zs
product_steps value_type xs ys zs =
    two_steps_left (arith_row Minus value_type) (arith_row Multiply value_type) (λ z x y. fused_row MultiplySub value_type x y z) (product_with_difference value_type) xs ys zs
    ∙ three_turned (fused_row MultiplySub value_type) xs ys zs

pub fused_gives : (form : FusedOperator) (a b c r : TypedRows) → r.value_type ≡ a.value_type → Some r.rows ≡ elementwise_three (fused_row form a.value_type) a.rows b.rows c.rows → Some r ≡ fused_rows form a b c
unfolding fused_rows
fused_gives form a b c r h e = ap (λ k. Some (of_type k r.rows)) h ∙ ap (option_map (of_type a.value_type)) e

pub fused_none : (form : FusedOperator) (a b c : TypedRows) → elementwise_three (fused_row form a.value_type) a.rows b.rows c.rows ≡ None → fused_rows form a b c ≡ None
unfolding fused_rows
fused_none form a b c e = ap (option_map (of_type a.value_type)) e

-- the same of an answer whose type and rows are known, and of a refusal
pub fused_answer : (form : FusedOperator) (a b c : TypedRows) (r : Result Buffer PlanError) → IfOk r (λ d. type_of d ≡ a.value_type)
    → GivesOr ShapeMismatch rows_of r (elementwise_three (fused_row form a.value_type) a.rows b.rows c.rows) → GivesOr ShapeMismatch values_of r (fused_rows form a b c)
fused_answer form a b c (Ok d) h e = fused_gives form a b c (values_of d) h e
fused_answer form a b c (Err x) h e = refused x (fused_none form a b c) e
