-- Rows of a product and then a sum or a difference, and rows of the fused form.
use Rattle.std.proofs.Common.{◌≡◌, ◌∙◌, ◌⊎◌, inl, inr, ◌*ℤ◌, ℕ, List, [], ◌∷◌, length, zero, suc, sym, ap, refl, Option, Some, None, option_map, option_and_then, replicate, arith}
use lib.IntN.{+ℤ_comm}
use Rattle.std.specs.Simd.Lanes.{zip2}
use Rattle.std.proofs.lemmas.Simd.{length-zip2}
use Rattle.px_types.proofs.Wrapping.{into-add_right, into-sub_right, into-sub_left}
use Rattle.px_semantics.specs.Arithmetic.{arith_row, arith_rows}
use Rattle.px_semantics.specs.Selections.{broadcast_length_three}
use Rattle.px_types.specs.declared.function.FusedOperator.{FusedOperator}
use Rattle.px_types.specs.declared.function.FusedOperator.TheVariants.{MultiplyAdd, SubMultiply, MultiplySub}
use Rattle.px_semantics.specs.Fused.{fused_row, fused_rows, zip3, elementwise_three}
use Rattle.px_types.specs.Integers.{into}
use Rattle.px_semantics.specs.Rows.{Row, TypedRows, BooleanValue, StringValue, IntegerValue, broadcast_length, stretch, elementwise}
use Rattle.px_types.specs.declared.operator.Operator.{Operator}
use Rattle.px_types.specs.declared.operator.Operator.TheVariants.{Plus, Minus, Multiply}
use Rattle.px_types.specs.declared.value_type.ValueType.{ValueType}
use Rattle.px_semantics.proofs.Joins.{stretch_whole}
use Rattle.px_semantics.proofs.LawLemmas.{broadcast_commutes, broadcast_associates}
use Rattle.px_semantics.proofs.Joining.{broadcasts_to, stretch_long, option_same, of_type, zip2_flip}
use Rattle.px_semantics.specs.FusedLaws.{HaveOneType}

-- on three rows
pub sum_with_product : (value_type : ValueType) (a b c : Row) → arith_row Plus value_type a (arith_row Multiply value_type b c) ≡ fused_row MultiplyAdd value_type a b c
sum_with_product value_type (Some (IntegerValue a)) (Some (IntegerValue b)) (Some (IntegerValue c)) = ap (λ z. Some (IntegerValue z)) (into-add_right value_type a (b *ℤ c))
sum_with_product value_type (Some (IntegerValue a)) (Some (IntegerValue b)) (Some (BooleanValue t)) = refl
sum_with_product value_type (Some (IntegerValue a)) (Some (IntegerValue b)) (Some (StringValue s)) = refl
sum_with_product value_type (Some (IntegerValue a)) (Some (IntegerValue b)) None = refl
sum_with_product value_type (Some (IntegerValue a)) (Some (BooleanValue t)) c = refl
sum_with_product value_type (Some (IntegerValue a)) (Some (StringValue s)) c = refl
sum_with_product value_type (Some (IntegerValue a)) None c = refl
sum_with_product value_type (Some (BooleanValue t)) b c = refl
sum_with_product value_type (Some (StringValue s)) b c = refl
sum_with_product value_type None b c = refl

sum_commutes : (value_type : ValueType) (x y : Row) → arith_row Plus value_type x y ≡ arith_row Plus value_type y x
sum_commutes value_type (Some (IntegerValue a)) (Some (IntegerValue b)) = ap (λ z. Some (IntegerValue (into value_type z))) (+ℤ_comm a b)
sum_commutes value_type (Some (IntegerValue a)) (Some (BooleanValue t)) = refl
sum_commutes value_type (Some (IntegerValue a)) (Some (StringValue s)) = refl
sum_commutes value_type (Some (IntegerValue a)) None = refl
sum_commutes value_type (Some (BooleanValue t)) (Some (IntegerValue b)) = refl
sum_commutes value_type (Some (BooleanValue t)) (Some (BooleanValue u)) = refl
sum_commutes value_type (Some (BooleanValue t)) (Some (StringValue v)) = refl
sum_commutes value_type (Some (BooleanValue t)) None = refl
sum_commutes value_type (Some (StringValue s)) (Some (IntegerValue b)) = refl
sum_commutes value_type (Some (StringValue s)) (Some (BooleanValue u)) = refl
sum_commutes value_type (Some (StringValue s)) (Some (StringValue v)) = refl
sum_commutes value_type (Some (StringValue s)) None = refl
sum_commutes value_type None (Some (IntegerValue b)) = refl
sum_commutes value_type None (Some (BooleanValue u)) = refl
sum_commutes value_type None (Some (StringValue v)) = refl
sum_commutes value_type None None = refl

pub product_with_sum : (value_type : ValueType) (a b c : Row) → arith_row Plus value_type (arith_row Multiply value_type a b) c ≡ fused_row MultiplyAdd value_type c a b
product_with_sum value_type a b c = sum_commutes value_type (arith_row Multiply value_type a b) c ∙ sum_with_product value_type c a b

pub difference_with_product : (value_type : ValueType) (a b c : Row) → arith_row Minus value_type a (arith_row Multiply value_type b c) ≡ fused_row SubMultiply value_type a b c
difference_with_product value_type (Some (IntegerValue a)) (Some (IntegerValue b)) (Some (IntegerValue c)) = ap (λ z. Some (IntegerValue z)) (into-sub_right value_type a (b *ℤ c))
difference_with_product value_type (Some (IntegerValue a)) (Some (IntegerValue b)) (Some (BooleanValue t)) = refl
difference_with_product value_type (Some (IntegerValue a)) (Some (IntegerValue b)) (Some (StringValue s)) = refl
difference_with_product value_type (Some (IntegerValue a)) (Some (IntegerValue b)) None = refl
difference_with_product value_type (Some (IntegerValue a)) (Some (BooleanValue t)) c = refl
difference_with_product value_type (Some (IntegerValue a)) (Some (StringValue s)) c = refl
difference_with_product value_type (Some (IntegerValue a)) None c = refl
difference_with_product value_type (Some (BooleanValue t)) b c = refl
difference_with_product value_type (Some (StringValue s)) b c = refl
difference_with_product value_type None b c = refl

pub product_with_difference : (value_type : ValueType) (a b c : Row) → arith_row Minus value_type (arith_row Multiply value_type a b) c ≡ fused_row MultiplySub value_type a b c
product_with_difference value_type (Some (IntegerValue a)) (Some (IntegerValue b)) (Some (IntegerValue c)) = ap (λ z. Some (IntegerValue z)) (into-sub_left value_type (a *ℤ b) c)
product_with_difference value_type (Some (IntegerValue a)) (Some (IntegerValue b)) (Some (BooleanValue t)) = refl
product_with_difference value_type (Some (IntegerValue a)) (Some (IntegerValue b)) (Some (StringValue s)) = refl
product_with_difference value_type (Some (IntegerValue a)) (Some (IntegerValue b)) None = refl
product_with_difference value_type (Some (IntegerValue a)) (Some (BooleanValue t)) c = refl
product_with_difference value_type (Some (IntegerValue a)) (Some (StringValue s)) c = refl
product_with_difference value_type (Some (IntegerValue a)) None c = refl
product_with_difference value_type (Some (BooleanValue t)) b c = refl
product_with_difference value_type (Some (StringValue s)) b c = refl
product_with_difference value_type None b c = refl

-- an operation on a list and the answers of another, as one of three lists
zip3_of : (f g : Row → Row → Row) (h : Row → Row → Row → Row) → ((x y z : Row) → f x (g y z) ≡ h x y z) → (xs ys zs : List Row) → zip2 f xs (zip2 g ys zs) ≡ zip3 h xs ys zs
zip3_of f g h same [] ys zs = refl
zip3_of f g h same (x ∷ xs) [] zs = refl
zip3_of f g h same (x ∷ xs) (y ∷ ys) [] = refl
zip3_of f g h same (x ∷ xs) (y ∷ ys) (z ∷ zs) = let here = same x y z in let rest = zip3_of f g h same xs ys zs in cc

repeated : (g : Row → Row → Row) (n : ℕ) (y z : Row) → replicate n (g y z) ≡ zip2 g (replicate n y) (replicate n z)
repeated g zero y z = refl
repeated g (suc n) y z = ap (λ l. g y z ∷ l) (repeated g n y z)

single : (g : Row → Row → Row) (ys zs : List Row) (n : ℕ) → length ys ≡ 1 → length zs ≡ 1 → stretch n (zip2 g (stretch 1 ys) (stretch 1 zs)) ≡ zip2 g (stretch n ys) (stretch n zs)
single g [] zs n p q = cc
single g (y ∷ []) [] n p q = cc
single g (y ∷ []) (z ∷ []) n p q = repeated g n y z
single g (y ∷ []) (z ∷ (v ∷ vs)) n p q = absurd (omega arith)
single g (y ∷ (u ∷ us)) zs n p q = absurd (omega arith)

to_one : (k m : ℕ) → m ≡ 1 → (k ≡ 1) ⊎ (k ≡ m) → k ≡ 1
to_one k m e (inl h) = h
to_one k m e (inr h) = h ∙ e

long : (g : Row → Row → Row) (ys zs : List Row) (m : ℕ) → broadcast_length (length ys) (length zs) ≡ Some m → length (zip2 g (stretch m ys) (stretch m zs)) ≡ m
long g ys zs m h =
    let to = broadcasts_to (length ys) (length zs) m h in
    let p = stretch_long ys m to.0 in
    let q = stretch_long zs m to.1 in
    length-zip2 g (stretch m ys) (stretch m zs) (p ∙ sym q) ∙ p

-- the answers of two lists, broadcast
stretched : (g : Row → Row → Row) (ys zs : List Row) (m n : ℕ) → broadcast_length (length ys) (length zs) ≡ Some m → (m ≡ 1) ⊎ (m ≡ n) → stretch n (zip2 g (stretch m ys) (stretch m zs)) ≡ zip2 g (stretch n ys) (stretch n zs)
stretched g ys zs m n h (inl e) =
    let to = broadcasts_to (length ys) (length zs) m h in
    ap (λ k. stretch n (zip2 g (stretch k ys) (stretch k zs))) e ∙ single g ys zs n (to_one (length ys) m e to.0) (to_one (length zs) m e to.1)
stretched g ys zs m n h (inr e) =
    stretch_whole (zip2 g (stretch m ys) (stretch m zs)) n (long g ys zs m h ∙ e) ∙ ap (λ k. zip2 g (stretch k ys) (stretch k zs)) e

module _ (f g : Row → Row → Row) (h : Row → Row → Row → Row) (same : (x y z : Row) → f x (g y z) ≡ h x y z) (xs ys zs : List Row) where
  outer : (m : ℕ) → broadcast_length (length ys) (length zs) ≡ Some m → (o : Option ℕ) → broadcast_length (length xs) m ≡ o
      → option_map (λ n. zip2 f (stretch n xs) (stretch n (zip2 g (stretch m ys) (stretch m zs)))) o ≡ option_map (λ n. zip3 h (stretch n xs) (stretch n ys) (stretch n zs)) o
  outer m e (Some n) d =
      ap (λ l. Some (zip2 f (stretch n xs) l)) (stretched g ys zs m n e (broadcasts_to (length xs) m n d).1) ∙ ap Some (zip3_of f g h same (stretch n xs) (stretch n ys) (stretch n zs))
  outer m e None d = refl

  inner : (o : Option ℕ) → broadcast_length (length ys) (length zs) ≡ o
      → option_and_then (elementwise f xs) (option_map (λ m. zip2 g (stretch m ys) (stretch m zs)) o)
      ≡ option_map (λ n. zip3 h (stretch n xs) (stretch n ys) (stretch n zs)) (option_and_then (λ m. broadcast_length (length xs) m) o)
  inner (Some m) e =
      let p = zip2 g (stretch m ys) (stretch m zs) in
      ap (λ k. option_map (λ n. zip2 f (stretch n xs) (stretch n p)) (broadcast_length (length xs) k)) (long g ys zs m e) ∙ outer m e (broadcast_length (length xs) m) refl
  inner None e = refl

  pub two_steps : option_and_then (elementwise f xs) (elementwise g ys zs) ≡ elementwise_three h xs ys zs
  two_steps = inner (broadcast_length (length ys) (length zs)) refl

rows_flip : (f : Row → Row → Row) (xs ys : List Row) → elementwise f xs ys ≡ elementwise (λ y x. f x y) ys xs
rows_flip f xs ys =
    ap (option_map (λ n. zip2 f (stretch n xs) (stretch n ys))) (broadcast_commutes (length xs) (length ys))
    ∙ option_same (λ n. zip2 f (stretch n xs) (stretch n ys)) (λ n. zip2 (λ y x. f x y) (stretch n ys) (stretch n xs)) (λ n. zip2_flip f (stretch n xs) (stretch n ys)) (broadcast_length (length ys) (length xs))

onward_same : {A B : Type 0} (f g : A → Option B) → ((x : A) → f x ≡ g x) → (o : Option A) → option_and_then f o ≡ option_and_then g o
onward_same f g same (Some x) = same x
onward_same f g same None = refl

zip3_turned : (h : Row → Row → Row → Row) (xs ys zs : List Row) → zip3 (λ z x y. h x y z) zs xs ys ≡ zip3 h xs ys zs
zip3_turned h [] ys [] = refl
zip3_turned h [] ys (z ∷ zs) = refl
zip3_turned h (x ∷ xs) [] [] = refl
zip3_turned h (x ∷ xs) [] (z ∷ zs) = refl
zip3_turned h (x ∷ xs) (y ∷ ys) [] = refl
zip3_turned h (x ∷ xs) (y ∷ ys) (z ∷ zs) = ap (λ l. h x y z ∷ l) (zip3_turned h xs ys zs)

joined_turned : (k m n : ℕ) → broadcast_length_three n k m ≡ broadcast_length_three k m n
joined_turned k m n = onward_same (λ l. broadcast_length n l) (λ l. broadcast_length l n) (λ l. broadcast_commutes n l) (broadcast_length k m) ∙ broadcast_associates k m n

pub three_turned : (h : Row → Row → Row → Row) (xs ys zs : List Row) → elementwise_three (λ z x y. h x y z) zs xs ys ≡ elementwise_three h xs ys zs
three_turned h xs ys zs =
    option_same (λ n. zip3 (λ z x y. h x y z) (stretch n zs) (stretch n xs) (stretch n ys)) (λ n. zip3 h (stretch n xs) (stretch n ys) (stretch n zs)) (λ n. zip3_turned h (stretch n xs) (stretch n ys) (stretch n zs)) (broadcast_length_three (length zs) (length xs) (length ys))
    ∙ ap (option_map (λ n. zip3 h (stretch n xs) (stretch n ys) (stretch n zs))) (joined_turned (length xs) (length ys) (length zs))

-- the product first
pub two_steps_left : (f g : Row → Row → Row) (h : Row → Row → Row → Row) → ((x y z : Row) → f (g x y) z ≡ h z x y) → (xs ys zs : List Row)
    → option_and_then (λ p. elementwise f p zs) (elementwise g xs ys) ≡ elementwise_three h zs xs ys
two_steps_left f g h same xs ys zs =
    onward_same (λ p. elementwise f p zs) (elementwise (λ y x. f x y) zs) (λ p. rows_flip f p zs) (elementwise g xs ys)
    ∙ two_steps (λ y x. f x y) g h (λ z x y. same x y z) zs xs ys

typed_after : (value_type : ValueType) (f : Row → Row → Row) (xs : List Row) (o : Option (List Row))
    → option_and_then (λ p. option_map (of_type value_type) (elementwise f xs p.rows)) (option_map (of_type value_type) o) ≡ option_map (of_type value_type) (option_and_then (elementwise f xs) o)
typed_after value_type f xs (Some rows) = refl
typed_after value_type f xs None = refl

typed_before : (o : Operator) (value_type : ValueType) (c : TypedRows) (rows : Option (List Row))
    → option_and_then (λ p. arith_rows o p c) (option_map (of_type value_type) rows) ≡ option_map (of_type value_type) (option_and_then (λ p. elementwise (arith_row o value_type) p c.rows) rows)
unfolding arith_rows
typed_before o value_type c (Some rows) = refl
typed_before o value_type c None = refl

-- a product of the second and the third column
product_after : (o : Operator) (form : FusedOperator) → ((value_type : ValueType) (x y z : Row) → arith_row o value_type x (arith_row Multiply value_type y z) ≡ fused_row form value_type x y z)
    → (a b c : TypedRows) → HaveOneType a b c → option_and_then (λ p. arith_rows o a p) (arith_rows Multiply b c) ≡ fused_rows form a b c
unfolding arith_rows fused_rows
product_after o form same a b c h =
    ap (λ k. option_and_then (λ p. arith_rows o a p) (option_map (of_type k) (elementwise (arith_row Multiply k) b.rows c.rows))) (sym h.0)
    ∙ typed_after a.value_type (arith_row o a.value_type) a.rows (elementwise (arith_row Multiply a.value_type) b.rows c.rows)
    ∙ ap (option_map (of_type a.value_type)) (two_steps (arith_row o a.value_type) (arith_row Multiply a.value_type) (fused_row form a.value_type) (same a.value_type) a.rows b.rows c.rows)

-- a product of the first and the second column
product_before : (o : Operator) (h : ValueType → Row → Row → Row → Row) → ((value_type : ValueType) (x y z : Row) → arith_row o value_type (arith_row Multiply value_type x y) z ≡ h value_type z x y)
    → (a b c : TypedRows) → option_and_then (λ p. arith_rows o p c) (arith_rows Multiply a b) ≡ option_map (of_type a.value_type) (elementwise_three (h a.value_type) c.rows a.rows b.rows)
unfolding arith_rows
product_before o h same a b c =
    typed_before o a.value_type c (elementwise (arith_row Multiply a.value_type) a.rows b.rows)
    ∙ ap (option_map (of_type a.value_type)) (two_steps_left (arith_row o a.value_type) (arith_row Multiply a.value_type) (h a.value_type) (same a.value_type) a.rows b.rows c.rows)

-- on three columns
pub sum_with_product_columns : (a b c : TypedRows) → HaveOneType a b c → option_and_then (λ p. arith_rows Plus a p) (arith_rows Multiply b c) ≡ fused_rows MultiplyAdd a b c
sum_with_product_columns = product_after Plus MultiplyAdd sum_with_product

pub difference_with_product_columns : (a b c : TypedRows) → HaveOneType a b c → option_and_then (λ p. arith_rows Minus a p) (arith_rows Multiply b c) ≡ fused_rows SubMultiply a b c
difference_with_product_columns = product_after Minus SubMultiply difference_with_product

pub product_with_sum_columns : (a b c : TypedRows) → HaveOneType a b c → option_and_then (λ p. arith_rows Plus p c) (arith_rows Multiply a b) ≡ fused_rows MultiplyAdd c a b
unfolding fused_rows
product_with_sum_columns a b c h =
    product_before Plus (fused_row MultiplyAdd) product_with_sum a b c
    ∙ ap (λ k. option_map (of_type k) (elementwise_three (fused_row MultiplyAdd k) c.rows a.rows b.rows)) (h.0 ∙ h.1)

pub product_with_difference_columns : (a b c : TypedRows) → HaveOneType a b c → option_and_then (λ p. arith_rows Minus p c) (arith_rows Multiply a b) ≡ fused_rows MultiplySub a b c
unfolding fused_rows
product_with_difference_columns a b c h =
    product_before Minus (λ value_type z x y. fused_row MultiplySub value_type x y z) product_with_difference a b c
    ∙ ap (option_map (of_type a.value_type)) (three_turned (fused_row MultiplySub a.value_type) a.rows b.rows c.rows)
