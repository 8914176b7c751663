-- Laws of row functions and of what is done row by row, which the rewrites rest on.
use Rattle.std.proofs.Common.{◌≡◌, inl, inr, ℕ, zero, suc, List, [], ◌∷◌, map, length, replicate, get_or, Option, Some, None, Bool, true, false, not, refl, sym, ◌∙◌, ap, subst, arith}
use Rattle.std.specs.Prelude.{option_map}
use Rattle.std.specs.Simd.Lanes.{Each1, zip2}
use Rattle.std.proofs.lemmas.List.{length-map}
use Rattle.px_semantics.specs.Comparisons.{compare_row, test_row, less, equal}
use Rattle.px_semantics.specs.Logic.{boolean_logic_row, not_row, null_row, value_row}
use Rattle.px_semantics.specs.Rows.{Datum, BooleanValue, StringValue, IntegerValue, Row, IsRowOf, broadcast_length, stretch, elementwise}
use Rattle.px_types.specs.declared.operator.Operator.TheVariants as op
use Rattle.px_types.specs.declared.value_type.ValueType.TheVariants as value_type
use Rattle.px_semantics.proofs.LawLemmas.{by_eq}
use Rattle.px_semantics.proofs.Joins.{rows_same, rows_left, rows_right, stretch_one, stretch_other}

map-fixed : (P : Row → Type 0) (f : Row → Row) → ((r : Row) → P r → f r ≡ r) → (rows : List Row) → Each1 P rows → map f rows ≡ rows
map-fixed P f h [] p = refl
map-fixed P f h (r ∷ rows) p = let here = h r p.0 in let rest = map-fixed P f h rows p.1 in cc

-- one row on the left that changes nothing
pub left_unit : (P : Row → Type 0) (f : Row → Row → Row) (e : Row) → ((r : Row) → P r → f e r ≡ r) → (rows : List Row) → Each1 P rows → elementwise f (e ∷ []) rows ≡ Some rows
left_unit P f e h rows p = rows_left f (e ∷ []) rows refl ∙ ap Some (map-fixed P (f e) h rows p)

-- one row on the right that changes nothing
pub right_unit : (P : Row → Type 0) (f : Row → Row → Row) (e : Row) → ((r : Row) → P r → f r e ≡ r) → (rows : List Row) → Each1 P rows → elementwise f rows (e ∷ []) ≡ Some rows
right_unit P f e h rows p = elim (by_eq (length rows) 1) [
  | inl one ↦ rows_same f rows (e ∷ []) one ∙ ap Some (single rows one p)
  | inr other ↦ rows_right f rows (e ∷ []) other other refl ∙ ap Some (map-fixed P (λ r. f r e) h rows p)
]
  where
    single : (rows : List Row) → length rows ≡ 1 → Each1 P rows → zip2 f rows (e ∷ []) ≡ rows
    single [] one p = cc
    single (r ∷ []) one p = ap (λ x. x ∷ []) (h r p.0)
    single (r ∷ (s ∷ rows)) one p = absurd (omega arith)

pub and-true : (r : Row) → IsRowOf value_type.Boolean r → boolean_logic_row op.And r (Some (BooleanValue true)) ≡ r
and-true None h = refl
and-true (Some (BooleanValue true)) h = refl
and-true (Some (BooleanValue false)) h = refl
and-true (Some (StringValue b)) h = absurd h
and-true (Some (IntegerValue z)) h = absurd h

pub true-and : (r : Row) → IsRowOf value_type.Boolean r → boolean_logic_row op.And (Some (BooleanValue true)) r ≡ r
true-and None h = refl
true-and (Some (BooleanValue true)) h = refl
true-and (Some (BooleanValue false)) h = refl
true-and (Some (StringValue b)) h = absurd h
true-and (Some (IntegerValue z)) h = absurd h

pub or-false : (r : Row) → IsRowOf value_type.Boolean r → boolean_logic_row op.Or r (Some (BooleanValue false)) ≡ r
or-false None h = refl
or-false (Some (BooleanValue true)) h = refl
or-false (Some (BooleanValue false)) h = refl
or-false (Some (StringValue b)) h = absurd h
or-false (Some (IntegerValue z)) h = absurd h

pub false-or : (r : Row) → IsRowOf value_type.Boolean r → boolean_logic_row op.Or (Some (BooleanValue false)) r ≡ r
false-or None h = refl
false-or (Some (BooleanValue true)) h = refl
false-or (Some (BooleanValue false)) h = refl
false-or (Some (StringValue b)) h = absurd h
false-or (Some (IntegerValue z)) h = absurd h

-- a function of each row before or after what is done row by row
map-replicate : (h : Row → Row) (n : ℕ) (r : Row) → map h (replicate n r) ≡ replicate n (h r)
map-replicate h zero r = refl
map-replicate h (suc n) r = ap (λ l. h r ∷ l) (map-replicate h n r)

map-first : (h : Row → Row) (rows : List Row) → length rows ≡ 1 → h (get_or rows 0 None) ≡ get_or (map h rows) 0 None
map-first h [] e = cc
map-first h (r ∷ rows) e = refl

pub stretch-map : (h : Row → Row) (n : ℕ) (rows : List Row) → stretch n (map h rows) ≡ map h (stretch n rows)
stretch-map h n rows = elim (by_eq (length rows) 1) [
  | inl one ↦
      stretch_one (map h rows) n (length-map rows h ∙ one)
      ∙ (ap (replicate n) (sym (map-first h rows one)) ∙ (sym (map-replicate h n (get_or rows 0 None)) ∙ ap (map h) (sym (stretch_one rows n one))))
  | inr other ↦ stretch_other (map h rows) n (λ e. other (sym (length-map rows h) ∙ e)) ∙ ap (map h) (sym (stretch_other rows n other))
]

zip2-mapped : (P : Row → Type 0) (h : Row → Row) (f g : Row → Row → Row) → ((x y : Row) → P x → P y → g (h x) (h y) ≡ h (f x y)) → (xs ys : List Row) → Each1 P xs → Each1 P ys → zip2 g (map h xs) (map h ys) ≡ map h (zip2 f xs ys)
zip2-mapped P h f g same [] ys p q = refl
zip2-mapped P h f g same (x ∷ xs) [] p q = refl
zip2-mapped P h f g same (x ∷ xs) (y ∷ ys) p q = let here = same x y p.0 q.0 in let rest = zip2-mapped P h f g same xs ys p.1 q.1 in cc

stretched : (P : Row → Type 0) → P None → (n : ℕ) (rows : List Row) → Each1 P rows → Each1 P (stretch n rows)
stretched P d n rows p = elim (by_eq (length rows) 1) [
  | inl one ↦ subst (Each1 P) (sym (stretch_one rows n one)) (copies n (get_or rows 0 None) (first rows p))
  | inr other ↦ subst (Each1 P) (sym (stretch_other rows n other)) p
]
  where
    first : (rows : List Row) → Each1 P rows → P (get_or rows 0 None)
    first [] p = d
    first (r ∷ rows) p = p.0

    copies : (n : ℕ) (r : Row) → P r → Each1 P (replicate n r)
    copies zero r p = tt
    copies (suc n) r p = (p, copies n r p)

-- a function of each row goes through what is done row by row
pub elementwise-mapped :
    (P : Row → Type 0) → P None → (h : Row → Row) (f g : Row → Row → Row) → ((x y : Row) → P x → P y → g (h x) (h y) ≡ h (f x y)) → (xs ys : List Row) → Each1 P xs → Each1 P ys →
    elementwise g (map h xs) (map h ys) ≡ option_map (map h) (elementwise f xs ys)
elementwise-mapped P d h f g same xs ys p q =
    ap (λ m. option_map (λ n. zip2 g (stretch n (map h xs)) (stretch n (map h ys))) (broadcast_length m (length (map h ys)))) (length-map xs h)
    ∙ (ap (λ m. option_map (λ n. zip2 g (stretch n (map h xs)) (stretch n (map h ys))) (broadcast_length (length xs) m)) (length-map ys h)
    ∙ go (broadcast_length (length xs) (length ys)))
  where
    go : (o : Option ℕ) → option_map (λ n. zip2 g (stretch n (map h xs)) (stretch n (map h ys))) o ≡ option_map (map h) (option_map (λ n. zip2 f (stretch n xs) (stretch n ys)) o)
    go None = refl
    go (Some n) = ap Some
        (ap (λ l. zip2 g l (stretch n (map h ys))) (stretch-map h n xs)
        ∙ (ap (λ l. zip2 g (map h (stretch n xs)) l) (stretch-map h n ys)
        ∙ zip2-mapped P h f g same (stretch n xs) (stretch n ys) (stretched P d n xs p) (stretched P d n ys q)))

map-zip2 : (h : Row → Row) (f g : Row → Row → Row) → ((x y : Row) → h (f x y) ≡ g x y) → (xs ys : List Row) → map h (zip2 f xs ys) ≡ zip2 g xs ys
map-zip2 h f g same [] ys = refl
map-zip2 h f g same (x ∷ xs) [] = refl
map-zip2 h f g same (x ∷ xs) (y ∷ ys) = let here = same x y in let rest = map-zip2 h f g same xs ys in cc

-- a function of what is done row by row
pub elementwise-after : (h : Row → Row) (f g : Row → Row → Row) → ((x y : Row) → h (f x y) ≡ g x y) → (xs ys : List Row) → option_map (map h) (elementwise f xs ys) ≡ elementwise g xs ys
elementwise-after h f g same xs ys = go (broadcast_length (length xs) (length ys))
  where
    go : (o : Option ℕ) → option_map (map h) (option_map (λ n. zip2 f (stretch n xs) (stretch n ys)) o) ≡ option_map (λ n. zip2 g (stretch n xs) (stretch n ys)) o
    go None = refl
    go (Some n) = ap Some (map-zip2 h f g same (stretch n xs) (stretch n ys))

opposite : (b : Bool) → not_row (Some (BooleanValue b)) ≡ Some (BooleanValue (not b))
opposite true = refl
opposite false = refl

twice : (b : Bool) → not (not b) ≡ b
twice true = refl
twice false = refl

-- the negation of a test is the test of the negation
pub not-test : (f g : Datum → Datum → Bool) → ((d e : Datum) → not (f d e) ≡ g d e) → (x y : Row) → not_row (test_row f x y) ≡ test_row g x y
not-test f g h None y = refl
not-test f g h (Some d) None = refl
not-test f g h (Some d) (Some e) = opposite (f d e) ∙ ap (λ b. Some (BooleanValue b)) (h d e)

pub not-Eq : (x y : Row) → not_row (compare_row op.Eq x y) ≡ compare_row op.NotEq x y
not-Eq = not-test equal (λ a b. not (equal a b)) (λ d e. refl)

pub not-NotEq : (x y : Row) → not_row (compare_row op.NotEq x y) ≡ compare_row op.Eq x y
not-NotEq = not-test (λ a b. not (equal a b)) equal (λ d e. twice (equal d e))

pub not-Lt : (x y : Row) → not_row (compare_row op.Lt x y) ≡ compare_row op.GtEq x y
not-Lt = not-test less (λ a b. not (less a b)) (λ d e. refl)

pub not-LtEq : (x y : Row) → not_row (compare_row op.LtEq x y) ≡ compare_row op.Gt x y
not-LtEq = not-test (λ a b. not (less b a)) (λ a b. less b a) (λ d e. twice (less e d))

pub not-Gt : (x y : Row) → not_row (compare_row op.Gt x y) ≡ compare_row op.LtEq x y
not-Gt = not-test (λ a b. less b a) (λ a b. not (less b a)) (λ d e. refl)

pub not-GtEq : (x y : Row) → not_row (compare_row op.GtEq x y) ≡ compare_row op.Lt x y
not-GtEq = not-test (λ a b. not (less a b)) less (λ d e. twice (less d e))

pub not-null : (r : Row) → not_row (null_row r) ≡ value_row r
not-null None = refl
not-null (Some d) = refl

pub not-value : (r : Row) → not_row (value_row r) ≡ null_row r
not-value None = refl
not-value (Some d) = refl

pub map-map : (f g h : Row → Row) → ((r : Row) → f (g r) ≡ h r) → (rows : List Row) → map f (map g rows) ≡ map h rows
map-map f g h same [] = refl
map-map f g h same (r ∷ rows) = let here = same r in let rest = map-map f g h same rows in cc

pub map-back : (P : Row → Type 0) (f g : Row → Row) → ((r : Row) → P r → f (g r) ≡ r) → (rows : List Row) → Each1 P rows → map f (map g rows) ≡ rows
map-back P f g same [] p = refl
map-back P f g same (r ∷ rows) p = let here = same r p.0 in let rest = map-back P f g same rows p.1 in cc
