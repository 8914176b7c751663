-- What is done row by row with columns gives columns.
use Rattle.std.proofs.Common.{◌≡◌, ◌⊎◌, inl, inr, ◌^◌, ◌<◌, ℕ, ◌==◌, List, [], ◌∷◌, map, length, replicate, get_or, Some, None, Bool, true, false, cond, refl, sym, ◌∙◌, ap, subst, arith}
use Rattle.std.specs.Prelude.{option_map}
use Rattle.std.specs.Simd.Lanes.{Each1, zip2}
use Rattle.std.proofs.lemmas.List.{length-map, length-replicate}
use Rattle.std.proofs.lemmas.Simd.{length-zip2, Each1-replicate}
use Rattle.px_semantics.specs.Casts.{any_lost, cast_value, cast_row, cast_list, cast_rows}
use Rattle.px_semantics.specs.Selections.{broadcast_length_three, select_all, select_row, select_rows}
use Rattle.px_semantics.specs.Fused.{zip3, elementwise_three}
use Rattle.px_semantics.specs.Logic.{is_true}
use Rattle.px_semantics.specs.Rows.{Datum, Row, TypedRows, IsRowOf, broadcast_length, stretch, elementwise, broadcast_rows}
use Rattle.px_types.specs.declared.type_parts.CastOptions.{CastOptions}
use Rattle.px_types.specs.declared.type_parts.CastOptions.TheVariants.{Strict, NonStrict, Overflowing}
use Rattle.px_types.specs.declared.value_type.ValueType.{ValueType}
use Rattle.px_types.specs.declared.value_type.ValueType.TheVariants as value_type
use Rattle.px_semantics.proofs.LawLemmas.{by_eq}
use Rattle.px_semantics.proofs.Joins.{broadcast_same, broadcast_left, broadcast_right, broadcast_none, stretch_one, stretch_whole}
use Rattle.px_semantics.specs.Columns.{IsColumn}
use Rattle.px_meaning.proofs.Shapes.{and_then-parts, map-parts}

-- a column of the type
pub record IsColumnOf (k : ValueType) (a : TypedRows) : Type 0 where
  pub value_type : a.value_type ≡ k
  pub column : IsColumn a

pub typed_rows : (k : ValueType) (a : TypedRows) → IsColumnOf k a → Each1 (IsRowOf k) a.rows
typed_rows k a h = subst (λ (j : ValueType). Each1 (IsRowOf j) a.rows) h.value_type h.column.typed

-- rows of a type, fewer than 2^32, are a column
pub is_column_of : (k : ValueType) (rows : List Row) → length rows < 2 ^ 32 → Each1 (IsRowOf k) rows → IsColumnOf k (record { value_type = k; rows = rows })
is_column_of k rows below_limit typed = record { value_type = refl; column = record { below_limit = below_limit; typed = typed } }

-- what lengths broadcast to
pub record Joins (m n l : ℕ) : Type 0 where
  pub left : (m ≡ 1) ⊎ (m ≡ l)
  pub right : (n ≡ 1) ⊎ (n ≡ l)
  pub either : (l ≡ m) ⊎ (l ≡ n)

pub broadcast_length-parts : (m n l : ℕ) → broadcast_length m n ≡ Some l → Joins m n l
broadcast_length-parts m n l e = elim (by_eq m n) [
  | inl p ↦ let f : Some m ≡ Some l = sym (broadcast_same m n p) ∙ e in let g : m ≡ l = cc in record { left = inr g; right = inr (sym p ∙ g); either = inl (sym g) }
  | inr d ↦ elim (by_eq m 1) [
    | inl p ↦ let f : Some n ≡ Some l = sym (broadcast_left m n p) ∙ e in let g : n ≡ l = cc in record { left = inl p; right = inr g; either = inr (sym g) }
    | inr q ↦ elim (by_eq n 1) [
      | inl p ↦ let f : Some m ≡ Some l = sym (broadcast_right m n d q p) ∙ e in let g : m ≡ l = cc in record { left = inr g; right = inl p; either = inl (sym g) }
      | inr r ↦ let f : None ≡ Some l = sym (broadcast_none m n d q r) ∙ e in cc
    ]
  ]
]

pub stretch-long : (rows : List Row) (n : ℕ) → (length rows ≡ 1) ⊎ (length rows ≡ n) → length (stretch n rows) ≡ n
stretch-long rows n (inl e) = ap length (stretch_one rows n e) ∙ length-replicate n (get_or rows 0 None)
stretch-long rows n (inr e) = ap length (stretch_whole rows n e) ∙ e

pub stretch-typed : (P : Row → Type 0) → P None → (n : ℕ) (rows : List Row) → Each1 P rows → Each1 P (stretch n rows)
stretch-typed P d n rows h = go (length rows == 1)
  where
    first : (rows : List Row) → Each1 P rows → P (get_or rows 0 None)
    first [] h = d
    first (r ∷ rows) h = h.0

    go : (b : Bool) → Each1 P (cond b (replicate n (get_or rows 0 None)) rows)
    go true = Each1-replicate P n (get_or rows 0 None) (first rows h)
    go false = h

pub zip2-typed : (P Q R : Row → Type 0) (f : Row → Row → Row) → ((x y : Row) → P x → Q y → R (f x y)) → (xs ys : List Row) → Each1 P xs → Each1 Q ys → Each1 R (zip2 f xs ys)
zip2-typed P Q R f h [] ys p q = tt
zip2-typed P Q R f h (x ∷ xs) [] p q = tt
zip2-typed P Q R f h (x ∷ xs) (y ∷ ys) p q = (h x y p.0 q.0, zip2-typed P Q R f h xs ys p.1 q.1)

-- f row by row of two columns is a column
pub broadcast_rows-typed :
    (i j k : ValueType) (f : Row → Row → Row) → ((x y : Row) → IsRowOf i x → IsRowOf j y → IsRowOf k (f x y)) →
    (a b v : TypedRows) → IsColumnOf i a → IsColumnOf j b → broadcast_rows k f a.rows b.rows ≡ Some v → IsColumnOf k v
broadcast_rows-typed i j k f h a b v ha hb e =
    let (rows, g, same) = map-parts (elementwise f a.rows b.rows) (λ rows. record { value_type = k; rows = rows }) v e in
    let (n, d, made) = map-parts (broadcast_length (length a.rows) (length b.rows)) (λ n. zip2 f (stretch n a.rows) (stretch n b.rows)) rows g in
    let to = broadcast_length-parts (length a.rows) (length b.rows) n d in
    let left = stretch-long a.rows n to.left in
    let right = stretch-long b.rows n to.right in
    let long : length (zip2 f (stretch n a.rows) (stretch n b.rows)) ≡ n = length-zip2 f (stretch n a.rows) (stretch n b.rows) (left ∙ sym right) ∙ left in
    let below_limit : n < 2 ^ 32 = elim to.either [ inl p ↦ subst (λ (x : ℕ). x < 2 ^ 32) (sym p) ha.column.below_limit | inr p ↦ subst (λ (x : ℕ). x < 2 ^ 32) (sym p) hb.column.below_limit ] in
    let typed : Each1 (IsRowOf k) (zip2 f (stretch n a.rows) (stretch n b.rows)) =
    zip2-typed (IsRowOf i) (IsRowOf j) (IsRowOf k) f h (stretch n a.rows) (stretch n b.rows) (stretch-typed (IsRowOf i) tt n a.rows (typed_rows i a ha)) (stretch-typed (IsRowOf j) tt n b.rows (typed_rows j b hb)) in
    subst (IsColumnOf k) same
    (subst (λ (z : List Row). IsColumnOf k (record { value_type = k; rows = z })) made
    (is_column_of k (zip2 f (stretch n a.rows) (stretch n b.rows)) (subst (λ (x : ℕ). x < 2 ^ 32) (sym long) below_limit) typed))

pub map-typed : (P Q : Row → Type 0) (f : Row → Row) → ((r : Row) → P r → Q (f r)) → (rows : List Row) → Each1 P rows → Each1 Q (map f rows)
map-typed P Q f h [] p = tt
map-typed P Q f h (r ∷ rows) p = (h r p.0, map-typed P Q f h rows p.1)

-- f of each row of a column is a column
pub map-column : (j k : ValueType) (f : Row → Row) → ((r : Row) → IsRowOf j r → IsRowOf k (f r)) → (a : TypedRows) → IsColumnOf j a → IsColumnOf k (record { value_type = k; rows = map f a.rows })
map-column j k f h a ha =
    is_column_of k (map f a.rows) (subst (λ (n : ℕ). n < 2 ^ 32) (sym (length-map a.rows f)) ha.column.below_limit) (map-typed (IsRowOf j) (IsRowOf k) f h a.rows (typed_rows j a ha))

-- three lengths that broadcast
pub record JoinsThree (m n p l : ℕ) : Type 0 where
  pub first : (m ≡ 1) ⊎ (m ≡ l)
  pub second : (n ≡ 1) ⊎ (n ≡ l)
  pub third : (p ≡ 1) ⊎ (p ≡ l)
  pub one_of : (l ≡ m) ⊎ ((l ≡ n) ⊎ (l ≡ p))

onward : (m k l : ℕ) → (m ≡ 1) ⊎ (m ≡ k) → (k ≡ 1) ⊎ (k ≡ l) → (m ≡ 1) ⊎ (m ≡ l)
onward m k l (inl e) h = inl e
onward m k l (inr e) (inl f) = inl (e ∙ f)
onward m k l (inr e) (inr f) = inr (e ∙ f)

pub broadcast_length_three-parts : (m n p l : ℕ) → broadcast_length_three m n p ≡ Some l → JoinsThree m n p l
broadcast_length_three-parts m n p l e =
    let (k, f, g) = and_then-parts (broadcast_length n p) (λ l. broadcast_length m l) l e in
    let inner = broadcast_length-parts n p k f in
    let outer = broadcast_length-parts m k l g in
    record {
      first = outer.left;
      second = onward n k l inner.left outer.right;
      third = onward p k l inner.right outer.right;
      one_of = elim outer.either [ inl h ↦ inl h | inr h ↦ elim inner.either [ inl i ↦ inr (inl (h ∙ i)) | inr i ↦ inr (inr (h ∙ i)) ] ];
    }

pub zip3-long : (f : Row → Row → Row → Row) (xs ys zs : List Row) → length xs ≡ length ys → length ys ≡ length zs → length (zip3 f xs ys zs) ≡ length xs
zip3-long f [] ys zs e g = refl
zip3-long f (x ∷ xs) [] zs e g = absurd (omega arith)
zip3-long f (x ∷ xs) (y ∷ ys) [] e g = absurd (omega arith)
zip3-long f (x ∷ xs) (y ∷ ys) (z ∷ zs) e g = let h : length (zip3 f xs ys zs) ≡ length xs = zip3-long f xs ys zs (omega arith) (omega arith) in omega arith

pub zip3-typed : (k : ValueType) (f : Row → Row → Row → Row) → ((x y z : Row) → IsRowOf k (f x y z)) → (xs ys zs : List Row) → Each1 (IsRowOf k) (zip3 f xs ys zs)
zip3-typed k f h [] ys zs = tt
zip3-typed k f h (x ∷ xs) [] zs = tt
zip3-typed k f h (x ∷ xs) (y ∷ ys) [] = tt
zip3-typed k f h (x ∷ xs) (y ∷ ys) (z ∷ zs) = (h x y z, zip3-typed k f h xs ys zs)

pub select_all-length : (ms xs ys : List Row) → length ms ≡ length xs → length xs ≡ length ys → length (select_all ms xs ys) ≡ length ms
select_all-length [] xs ys e g = refl
select_all-length (m ∷ ms) [] ys e g = absurd (omega arith)
select_all-length (m ∷ ms) (x ∷ xs) [] e g = absurd (omega arith)
select_all-length (m ∷ ms) (x ∷ xs) (y ∷ ys) e g = let h : length (select_all ms xs ys) ≡ length ms = select_all-length ms xs ys (omega arith) (omega arith) in omega arith

pub select_all-typed : (P : Row → Type 0) (ms xs ys : List Row) → Each1 P xs → Each1 P ys → Each1 P (select_all ms xs ys)
select_all-typed P [] xs ys p q = tt
select_all-typed P (m ∷ ms) [] ys p q = tt
select_all-typed P (m ∷ ms) (x ∷ xs) [] p q = tt
select_all-typed P (m ∷ ms) (x ∷ xs) (y ∷ ys) p q = (go (is_true m), select_all-typed P ms xs ys p.1 q.1)
  where
    go : (b : Bool) → P (select_row b x y)
    go true = p.0
    go false = q.0

below_limit_of : (m n p l : ℕ) → m < 2 ^ 32 → n < 2 ^ 32 → p < 2 ^ 32 → (l ≡ m) ⊎ ((l ≡ n) ⊎ (l ≡ p)) → l < 2 ^ 32
below_limit_of m n p l a b c (inl e) = subst (λ (x : ℕ). x < 2 ^ 32) (sym e) a
below_limit_of m n p l a b c (inr (inl e)) = subst (λ (x : ℕ). x < 2 ^ 32) (sym e) b
below_limit_of m n p l a b c (inr (inr e)) = subst (λ (x : ℕ). x < 2 ^ 32) (sym e) c

-- f row by row of three columns is a column
pub three-column :
    (i j l k : ValueType) (f : Row → Row → Row → Row) → ((x y z : Row) → IsRowOf k (f x y z)) → (a b d v : TypedRows) → IsColumnOf i a → IsColumnOf j b → IsColumnOf l d →
    option_map (λ rows. record { value_type = k; rows = rows }) (elementwise_three f a.rows b.rows d.rows) ≡ Some v → IsColumnOf k v
three-column i j l k f h a b d v ha hb hd e =
    let (rows, g, same) = map-parts (elementwise_three f a.rows b.rows d.rows) (λ rows. record { value_type = k; rows = rows }) v e in
    let (n, q, made) = map-parts (broadcast_length_three (length a.rows) (length b.rows) (length d.rows)) (λ n. zip3 f (stretch n a.rows) (stretch n b.rows) (stretch n d.rows)) rows g in
    let to = broadcast_length_three-parts (length a.rows) (length b.rows) (length d.rows) n q in
    let x = stretch-long a.rows n to.first in
    let y = stretch-long b.rows n to.second in
    let z = stretch-long d.rows n to.third in
    let long : length (zip3 f (stretch n a.rows) (stretch n b.rows) (stretch n d.rows)) ≡ n = zip3-long f (stretch n a.rows) (stretch n b.rows) (stretch n d.rows) (x ∙ sym y) (y ∙ sym z) ∙ x in
    let below_limit : n < 2 ^ 32 = below_limit_of (length a.rows) (length b.rows) (length d.rows) n ha.column.below_limit hb.column.below_limit hd.column.below_limit to.one_of in
    subst (IsColumnOf k) same
    (subst (λ (r : List Row). IsColumnOf k (record { value_type = k; rows = r })) made
    (is_column_of k (zip3 f (stretch n a.rows) (stretch n b.rows) (stretch n d.rows)) (subst (λ (m : ℕ). m < 2 ^ 32) (sym long) below_limit)
    (zip3-typed k f h (stretch n a.rows) (stretch n b.rows) (stretch n d.rows))))

-- two columns of a type by a mask are a column of it
pub select_rows-typed : (k : ValueType) (m a b v : TypedRows) → IsColumnOf value_type.Boolean m → IsColumnOf k a → IsColumnOf k b → select_rows m a b ≡ Some v → IsColumnOf k v
unfolding select_rows
select_rows-typed k m a b v hm ha hb e =
    let made : ℕ → TypedRows = λ n. record { value_type = a.value_type; rows = select_all (stretch n m.rows) (stretch n a.rows) (stretch n b.rows) } in
    let (n, q, same) = map-parts (broadcast_length_three (length m.rows) (length a.rows) (length b.rows)) made v e in
    let to = broadcast_length_three-parts (length m.rows) (length a.rows) (length b.rows) n q in
    let x = stretch-long m.rows n to.first in
    let y = stretch-long a.rows n to.second in
    let z = stretch-long b.rows n to.third in
    let long : length (select_all (stretch n m.rows) (stretch n a.rows) (stretch n b.rows)) ≡ n = select_all-length (stretch n m.rows) (stretch n a.rows) (stretch n b.rows) (x ∙ sym y) (y ∙ sym z) ∙ x in
    let below_limit : n < 2 ^ 32 = below_limit_of (length m.rows) (length a.rows) (length b.rows) n hm.column.below_limit ha.column.below_limit hb.column.below_limit to.one_of in
    let typed : Each1 (IsRowOf k) (select_all (stretch n m.rows) (stretch n a.rows) (stretch n b.rows)) =
    select_all-typed (IsRowOf k) (stretch n m.rows) (stretch n a.rows) (stretch n b.rows) (stretch-typed (IsRowOf k) tt n a.rows (typed_rows k a ha)) (stretch-typed (IsRowOf k) tt n b.rows (typed_rows k b hb)) in
    subst (IsColumnOf k) same
    (subst (λ (j : ValueType). IsColumnOf k (record { value_type = j; rows = select_all (stretch n m.rows) (stretch n a.rows) (stretch n b.rows) })) (sym ha.value_type)
    (is_column_of k (select_all (stretch n m.rows) (stretch n a.rows) (stretch n b.rows)) (subst (λ (i : ℕ). i < 2 ^ 32) (sym long) below_limit) typed))

-- the rows of a cast
pub cast_list-parts : (options : CastOptions) (f : Datum → Row) (rows out : List Row) → cast_list options f rows ≡ Some out → map (cast_row f) rows ≡ out
cast_list-parts NonStrict f rows out e = cc
cast_list-parts Overflowing f rows out e = cc
cast_list-parts Strict f rows out e = go (any_lost f rows) e
  where
    go : (b : Bool) → cond b None (Some (map (cast_row f) rows)) ≡ Some out → map (cast_row f) rows ≡ out
    go true g = cc
    go false g = cc

pub cast_rows-typed :
    (options : CastOptions) (j k : ValueType) → ((r : Row) → IsRowOf k (cast_row (cast_value options k) r)) → (a v : TypedRows) → IsColumnOf j a → cast_rows options k a ≡ Some v → IsColumnOf k v
unfolding cast_rows
cast_rows-typed options j k h a v ha e =
    let (rows, g, same) = map-parts (cast_list options (cast_value options k) a.rows) (λ rows. record { value_type = k; rows = rows }) v e in
    let made = cast_list-parts options (cast_value options k) a.rows rows g in
    subst (IsColumnOf k) same
    (subst (λ (r : List Row). IsColumnOf k (record { value_type = k; rows = r })) made (map-column j k (cast_row (cast_value options k)) (λ r p. h r) a ha))
