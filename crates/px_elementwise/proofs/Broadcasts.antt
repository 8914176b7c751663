-- Rows of two lists that are broadcast, and then broadcast again with others.
use Rattle.std.proofs.Common.{◌≡◌, ◌∙◌, ◌⊎◌, inl, inr, ℕ, List, [], ◌∷◌, map, length, replicate, zero, suc, Option, Some, None, option_map, option_and_then, sym, ap, refl, arith}
use Rattle.std.specs.Simd.Lanes.{zip2}
use Rattle.std.proofs.lemmas.Simd.{length-zip2}
use Rattle.std.proofs.lemmas.List.{length-map}
use Rattle.px_types.specs.declared.value_type.ValueType.{ValueType}
use Rattle.px_semantics.specs.Fused.{zip3, elementwise_three}
use Rattle.px_semantics.specs.Logic.{is_true}
use Rattle.px_semantics.specs.Rows.{Row, TypedRows, broadcast_length, broadcast_rows, stretch, elementwise}
use Rattle.px_semantics.specs.Selections.{select_all, select_row, select_rows, broadcast_length_three}
use Rattle.px_semantics.proofs.Joins.{stretch_other, stretch_whole, broadcast_same, broadcast_left, by_broadcast}
use Rattle.px_semantics.proofs.Joining.{broadcasts_to, stretch_long, of_type}
use Rattle.px_semantics.proofs.LawLemmas.{broadcast_commutes, broadcast_associates}
use Rattle.px_kernels.proofs.SelectionRows.{choice_gives, choice_none}

-- a length with the common length
absorbed : (m n : ℕ) → (m ≡ 1) ⊎ (m ≡ n) → broadcast_length m n ≡ Some n
absorbed m n (inl e) = broadcast_left m n e
absorbed m n (inr e) = broadcast_same m n e ∙ ap Some e

pub absorbed_right : (m n : ℕ) → (m ≡ 1) ⊎ (m ≡ n) → broadcast_length n m ≡ Some n
absorbed_right m n h = broadcast_commutes n m ∙ absorbed m n h

-- as many rows as the common length
broadcast_long : (g : Row → Row → Row) (xs ys : List Row) (m : ℕ) → broadcast_length (length xs) (length ys) ≡ Some m → length (zip2 g (stretch m xs) (stretch m ys)) ≡ m
broadcast_long g xs ys m h =
    let to = broadcasts_to (length xs) (length ys) m h in
    let p = stretch_long xs m to.0 in
    let q = stretch_long ys m to.1 in
    length-zip2 g (stretch m xs) (stretch m ys) (p ∙ sym q) ∙ p

repeated : (g : Row → Row → Row) (n : ℕ) (x y : Row) → replicate n (g x y) ≡ zip2 g (replicate n x) (replicate n y)
repeated g zero x y = refl
repeated g (suc n) x y = ap (λ l. g x y ∷ l) (repeated g n x y)

single : (g : Row → Row → Row) (xs ys : List Row) (n : ℕ) → length xs ≡ 1 → length ys ≡ 1 → stretch n (zip2 g (stretch 1 xs) (stretch 1 ys)) ≡ zip2 g (stretch n xs) (stretch n ys)
single g [] ys n p q = cc
single g (x ∷ []) [] n p q = cc
single g (x ∷ []) (y ∷ []) n p q = repeated g n x y
single g (x ∷ []) (y ∷ (v ∷ vs)) n p q = absurd (omega arith)
single g (x ∷ (u ∷ us)) ys n p q = absurd (omega arith)

to_one : (k m : ℕ) → m ≡ 1 → (k ≡ 1) ⊎ (k ≡ m) → k ≡ 1
to_one k m e (inl h) = h
to_one k m e (inr h) = h ∙ e

-- the rows of two lists that were broadcast, broadcast once more
stretch-broadcast : (g : Row → Row → Row) (xs ys : List Row) (m n : ℕ) → broadcast_length (length xs) (length ys) ≡ Some m → (m ≡ 1) ⊎ (m ≡ n)
    → stretch n (zip2 g (stretch m xs) (stretch m ys)) ≡ zip2 g (stretch n xs) (stretch n ys)
stretch-broadcast g xs ys m n h (inl e) =
    let to = broadcasts_to (length xs) (length ys) m h in
    ap (λ k. stretch n (zip2 g (stretch k xs) (stretch k ys))) e ∙ single g xs ys n (to_one (length xs) m e to.0) (to_one (length ys) m e to.1)
stretch-broadcast g xs ys m n h (inr e) =
    stretch_whole (zip2 g (stretch m xs) (stretch m ys)) n (broadcast_long g xs ys m h ∙ e) ∙ ap (λ k. zip2 g (stretch k xs) (stretch k ys)) e

map-replicate : (f : Row → Row) (n : ℕ) (x : Row) → replicate n (f x) ≡ map f (replicate n x)
map-replicate f zero x = refl
map-replicate f (suc n) x = ap (λ l. f x ∷ l) (map-replicate f n x)

-- rows that were mapped, broadcast
stretch-map : (f : Row → Row) (xs : List Row) (n : ℕ) → stretch n (map f xs) ≡ map f (stretch n xs)
stretch-map f [] n = refl
stretch-map f (x ∷ []) n = map-replicate f n x
stretch-map f (x ∷ (y ∷ ys)) n = stretch_other (map f (x ∷ (y ∷ ys))) n (λ e. omega arith) ∙ sym (ap (map f) (stretch_other (x ∷ (y ∷ ys)) n (λ e. omega arith)))

-- a typed answer, by its type and its rows
pub typed_parts : (k : ValueType) (r : TypedRows) (o : Option (List Row)) → Some r ≡ option_map (of_type k) o → (r.value_type ≡ k) × (Some r.rows ≡ o)
typed_parts k r (Some rows) h =
    let e : r ≡ of_type k rows = cc in (ap (λ (t : TypedRows). t.value_type) e, ap (λ (t : TypedRows). Some t.rows) e)
typed_parts k r None h = cc

pub untyped_none : (k : ValueType) (o : Option (List Row)) → option_map (of_type k) o ≡ None → o ≡ None
untyped_none k (Some rows) h = cc
untyped_none k None h = refl

-- the lengths alone say whether there are rows
pub none_for : (f g : Row → Row → Row) (xs ys : List Row) → elementwise f xs ys ≡ None → elementwise g xs ys ≡ None
none_for f g xs ys = by (broadcast_length (length xs) (length ys))
  where
    by : (o : Option ℕ) → option_map (λ n. zip2 f (stretch n xs) (stretch n ys)) o ≡ None → option_map (λ n. zip2 g (stretch n xs) (stretch n ys)) o ≡ None
    by (Some n) h = cc
    by None h = refl

-- rows that are there, by the common length
some_for : (f : Row → Row → Row) (xs ys rows : List Row) → Some rows ≡ elementwise f xs ys
    → (n : ℕ) × (broadcast_length (length xs) (length ys) ≡ Some n) × (rows ≡ zip2 f (stretch n xs) (stretch n ys))
some_for f xs ys rows = by (broadcast_length (length xs) (length ys)) refl
  where
    by : (o : Option ℕ) → broadcast_length (length xs) (length ys) ≡ o → Some rows ≡ option_map (λ n. zip2 f (stretch n xs) (stretch n ys)) o
        → (n : ℕ) × (broadcast_length (length xs) (length ys) ≡ Some n) × (rows ≡ zip2 f (stretch n xs) (stretch n ys))
    by (Some n) e h = (n, e, cc)
    by None e h = cc

-- rows selected by a test of both sides
tested_pairs : (test h : Row → Row → Row) → ((x y : Row) → select_row (is_true (test x y)) y x ≡ h x y) → (xs ys : List Row) → select_all (zip2 test xs ys) ys xs ≡ zip2 h xs ys
tested_pairs test h same [] ys = refl
tested_pairs test h same (x ∷ xs) [] = refl
tested_pairs test h same (x ∷ xs) (y ∷ ys) = let here = same x y in let rest = tested_pairs test h same xs ys in cc

tested_each : (test : Row → Row) (h : Row → Row → Row) → ((x y : Row) → select_row (is_true (test x)) x y ≡ h x y) → (xs ys : List Row) → select_all (map test xs) xs ys ≡ zip2 h xs ys
tested_each test h same [] ys = refl
tested_each test h same (x ∷ xs) [] = refl
tested_each test h same (x ∷ xs) (y ∷ ys) = let here = same x y in let rest = tested_each test h same xs ys in cc

-- two columns by a mask that tests both, row by row
pub selected_by_pairs : (test h : Row → Row → Row) → ((x y : Row) → select_row (is_true (test x y)) y x ≡ h x y) → (mask a b : TypedRows)
    → Some mask.rows ≡ elementwise test a.rows b.rows → select_rows mask b a ≡ broadcast_rows b.value_type h a.rows b.rows
selected_by_pairs test h same mask a b e =
    let s = some_for test a.rows b.rows mask.rows e in
    let n = s.0 in
    let long : length mask.rows ≡ n = ap length s.2 ∙ broadcast_long test a.rows b.rows n s.1 in
    let three : broadcast_length_three (length mask.rows) (length b.rows) (length a.rows) ≡ Some n =
    ap (option_and_then (λ l. broadcast_length (length mask.rows) l)) (broadcast_commutes (length b.rows) (length a.rows) ∙ s.1)
    ∙ absorbed (length mask.rows) n (inr long) in
    sym (choice_gives mask b a n three)
    ∙ ap (λ l. Some (of_type b.value_type (select_all l (stretch n b.rows) (stretch n a.rows)))) (stretch_whole mask.rows n long ∙ s.2)
    ∙ ap (λ l. Some (of_type b.value_type l)) (tested_pairs test h same (stretch n a.rows) (stretch n b.rows))
    ∙ sym (ap (option_map (of_type b.value_type)) (by_broadcast h a.rows b.rows n s.1))

-- two columns by a mask that tests the first
pub selected_by_first : (test : Row → Row) (h : Row → Row → Row) → ((x y : Row) → select_row (is_true (test x)) x y ≡ h x y) → (mask a b : TypedRows)
    → mask.rows ≡ map test a.rows → select_rows mask a b ≡ broadcast_rows a.value_type h a.rows b.rows
selected_by_first test h same mask a b e = by (broadcast_length (length a.rows) (length b.rows)) refl
  where
    long : length mask.rows ≡ length a.rows
    long = ap length e ∙ length-map a.rows test

    by : (o : Option ℕ) → broadcast_length (length a.rows) (length b.rows) ≡ o → select_rows mask a b ≡ broadcast_rows a.value_type h a.rows b.rows
    by (Some n) f =
        let to = broadcasts_to (length a.rows) (length b.rows) n f in
        let three : broadcast_length_three (length mask.rows) (length a.rows) (length b.rows) ≡ Some n =
        ap (option_and_then (λ l. broadcast_length (length mask.rows) l)) f ∙ ap (λ k. broadcast_length k n) long ∙ absorbed (length a.rows) n to.0 in
        sym (choice_gives mask a b n three)
        ∙ ap (λ l. Some (of_type a.value_type (select_all l (stretch n a.rows) (stretch n b.rows)))) (ap (stretch n) e ∙ stretch-map test a.rows n)
        ∙ ap (λ l. Some (of_type a.value_type l)) (tested_each test h same (stretch n a.rows) (stretch n b.rows))
        ∙ sym (ap (option_map (of_type a.value_type)) (by_broadcast h a.rows b.rows n f))
    by None f =
        choice_none mask a b (ap (option_and_then (λ l. broadcast_length (length mask.rows) l)) f)
        ∙ sym (ap (λ o. option_map (of_type a.value_type) (option_map (λ n. zip2 h (stretch n a.rows) (stretch n b.rows)) o)) f)

-- f of the rows of two pairs of lists that share the first
shared_first : (f g h : Row → Row → Row) (k : Row → Row → Row → Row) → ((x y z : Row) → f (g x y) (h x z) ≡ k x y z) → (xs ys zs : List Row) → zip2 f (zip2 g xs ys) (zip2 h xs zs) ≡ zip3 k xs ys zs
shared_first f g h k same [] ys zs = refl
shared_first f g h k same (x ∷ xs) [] zs = refl
shared_first f g h k same (x ∷ xs) (y ∷ ys) [] = refl
shared_first f g h k same (x ∷ xs) (y ∷ ys) (z ∷ zs) = let here = same x y z in let rest = shared_first f g h k same xs ys zs in cc

module _ (f g h : Row → Row → Row) (k : Row → Row → Row → Row) (same : (x y z : Row) → f (g x y) (h x z) ≡ k x y z) (xs ys zs : List Row) where
  first_none : broadcast_length (length xs) (length ys) ≡ None → elementwise_three k xs ys zs ≡ None
  first_none e =
      ap (option_map (λ n. zip3 k (stretch n xs) (stretch n ys) (stretch n zs)))
      (sym (broadcast_associates (length xs) (length ys) (length zs)) ∙ ap (option_and_then (λ m. broadcast_length m (length zs))) e)

  second_none : broadcast_length (length xs) (length zs) ≡ None → elementwise_three k xs ys zs ≡ None
  second_none e =
      ap (option_map (λ n. zip3 k (stretch n xs) (stretch n ys) (stretch n zs)))
      (sym (broadcast_associates (length xs) (length ys) (length zs))
      ∙ ap (option_and_then (λ m. broadcast_length m (length zs))) (broadcast_commutes (length xs) (length ys))
      ∙ broadcast_associates (length ys) (length xs) (length zs)
      ∙ ap (option_and_then (λ m. broadcast_length (length ys) m)) e)

  both : (m n : ℕ) → broadcast_length (length xs) (length ys) ≡ Some m → broadcast_length (length xs) (length zs) ≡ Some n
      → elementwise f (zip2 g (stretch m xs) (stretch m ys)) (zip2 h (stretch n xs) (stretch n zs)) ≡ elementwise_three k xs ys zs
  both m n p q =
      let us = zip2 g (stretch m xs) (stretch m ys) in
      let vs = zip2 h (stretch n xs) (stretch n zs) in
      let to = broadcasts_to (length xs) (length ys) m p in
      let lengths : broadcast_length m n ≡ broadcast_length_three (length xs) (length ys) (length zs) =
      sym (ap (option_and_then (λ l. broadcast_length m l)) q)
      ∙ sym (broadcast_associates m (length xs) (length zs))
      ∙ ap (option_and_then (λ l. broadcast_length l (length zs))) (absorbed_right (length xs) m to.0)
      ∙ sym (ap (option_and_then (λ l. broadcast_length l (length zs))) p)
      ∙ broadcast_associates (length xs) (length ys) (length zs) in
      ap (λ l. option_map (λ n. zip2 f (stretch n us) (stretch n vs)) (broadcast_length l (length vs))) (broadcast_long g xs ys m p)
      ∙ ap (λ l. option_map (λ n. zip2 f (stretch n us) (stretch n vs)) (broadcast_length m l)) (broadcast_long h xs zs n q)
      ∙ whole (broadcast_length m n) refl
      ∙ ap (option_map (λ n. zip3 k (stretch n xs) (stretch n ys) (stretch n zs))) lengths
    where
      whole : (o : Option ℕ) → broadcast_length m n ≡ o
          → option_map (λ l. zip2 f (stretch l (zip2 g (stretch m xs) (stretch m ys))) (stretch l (zip2 h (stretch n xs) (stretch n zs)))) o ≡ option_map (λ l. zip3 k (stretch l xs) (stretch l ys) (stretch l zs)) o
      whole (Some l) e =
          let to = broadcasts_to m n l e in
          ap (λ us. Some (zip2 f us (stretch l (zip2 h (stretch n xs) (stretch n zs))))) (stretch-broadcast g xs ys m l p to.0)
          ∙ ap (λ vs. Some (zip2 f (zip2 g (stretch l xs) (stretch l ys)) vs)) (stretch-broadcast h xs zs n l q to.1)
          ∙ ap Some (shared_first f g h k same (stretch l xs) (stretch l ys) (stretch l zs))
      whole None e = refl

  -- two steps and then one, as one of three lists
  pub two_then_one : (us vs : List Row) → Some us ≡ elementwise g xs ys → Some vs ≡ elementwise h xs zs → elementwise f us vs ≡ elementwise_three k xs ys zs
  two_then_one us vs p q =
      let s = some_for g xs ys us p in
      let t = some_for h xs zs vs q in
      ap (λ l. elementwise f l vs) s.2 ∙ ap (elementwise f (zip2 g (stretch s.0 xs) (stretch s.0 ys))) t.2 ∙ both s.0 t.0 s.1 t.1

  length_none : (o : Option ℕ) (g : ℕ → List Row) → option_map g o ≡ None → o ≡ None
  length_none (Some n) g h = cc
  length_none None g h = refl

  pub first_refused : elementwise g xs ys ≡ None → elementwise_three k xs ys zs ≡ None
  first_refused e = first_none (length_none (broadcast_length (length xs) (length ys)) (λ n. zip2 g (stretch n xs) (stretch n ys)) e)

  pub second_refused : elementwise h xs zs ≡ None → elementwise_three k xs ys zs ≡ None
  second_refused e = second_none (length_none (broadcast_length (length xs) (length zs)) (λ n. zip2 h (stretch n xs) (stretch n zs)) e)
