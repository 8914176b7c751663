-- Laws of joining lengths and of three-valued logic.
use Rattle.std.proofs.Common.{◌≡◌, ◌≢◌, ◌∙◌, ◌⊎◌, inl, inr, ℕ, Bool, true, false, ◌&&◌, ◌||◌, not, cond, Option, Some, None, is_some, option_and_then, sym, ap, refl, arith}
use Rattle.std.proofs.lemmas.Bool.{cases_lt}
use Rattle.px_semantics.specs.Logic.{is_true, is_false, decided_row, and_row, or_row, xor_row, not_row}
use Rattle.px_semantics.specs.Rows.{Row, BooleanValue, StringValue, IntegerValue, IsRowOf, broadcast_length, boolean_entry}
use Rattle.px_types.specs.declared.value_type.ValueType.TheVariants.{Boolean}
use Rattle.px_semantics.proofs.Joins.{broadcast_same, broadcast_left, broadcast_right, broadcast_none}

pub by_eq : (m n : ℕ) → (m ≡ n) ⊎ (m ≢ n)
by_eq m n = elim (cases_lt m n) [
  | inl p ↦ inr (λ e. omega arith)
  | inr p ↦ elim (cases_lt n m) [ inl q ↦ inr (λ e. omega arith) | inr q ↦ inl (omega arith) ]
]

pub broadcast_commutes : (m n : ℕ) → broadcast_length m n ≡ broadcast_length n m
broadcast_commutes m n = elim (by_eq m n) [
  | inl e ↦ broadcast_same m n e ∙ ap Some e ∙ sym (broadcast_same n m (sym e))
  | inr d ↦ elim (by_eq m 1) [
    | inl e ↦ broadcast_left m n e ∙ sym (broadcast_right n m (λ h. d (sym h)) (λ h. d (e ∙ sym h)) e)
    | inr f ↦ elim (by_eq n 1) [
      | inl e ↦ broadcast_right m n d f e ∙ sym (broadcast_left n m e)
      | inr g ↦ broadcast_none m n d f g ∙ sym (broadcast_none n m (λ h. d (sym h)) g f)
    ]
  ]
]

broadcast_one : (k c : ℕ) → c ≡ 1 → broadcast_length k c ≡ Some k
broadcast_one k c e = broadcast_commutes k c ∙ broadcast_left c k e

left_unit : (a : ℕ) (o : Option ℕ) → a ≡ 1 → option_and_then (λ k. broadcast_length a k) o ≡ o
left_unit a (Some k) e = broadcast_left a k e
left_unit a None e = refl

right_unit : (c : ℕ) (o : Option ℕ) → c ≡ 1 → option_and_then (λ k. broadcast_length k c) o ≡ o
right_unit c (Some k) e = broadcast_one k c e
right_unit c None e = refl

pub broadcast_associates : (a b c : ℕ) → option_and_then (λ k. broadcast_length k c) (broadcast_length a b) ≡ option_and_then (λ k. broadcast_length a k) (broadcast_length b c)
broadcast_associates a b c = elim (by_eq a 1) [
  | inl e ↦ ap (option_and_then (λ k. broadcast_length k c)) (broadcast_left a b e) ∙ sym (left_unit a (broadcast_length b c) e)
  | inr p ↦ elim (by_eq c 1) [
    | inl e ↦ right_unit c (broadcast_length a b) e ∙ sym (ap (option_and_then (λ k. broadcast_length a k)) (broadcast_one b c e))
    | inr q ↦ elim (by_eq b 1) [
      | inl e ↦ ap (option_and_then (λ k. broadcast_length k c)) (broadcast_one a b e) ∙ sym (ap (option_and_then (λ k. broadcast_length a k)) (broadcast_left b c e))
      | inr r ↦ elim (by_eq a b) [
        | inl e ↦ ap (option_and_then (λ k. broadcast_length k c)) (broadcast_same a b e) ∙ elim (by_eq b c) [
          | inl f ↦ broadcast_same a c (e ∙ f) ∙ sym (ap (option_and_then (λ k. broadcast_length a k)) (broadcast_same b c f) ∙ broadcast_same a b e)
          | inr f ↦ broadcast_none a c (λ h. f (sym e ∙ h)) p q ∙ sym (ap (option_and_then (λ k. broadcast_length a k)) (broadcast_none b c f r q))
        ]
        | inr d ↦ ap (option_and_then (λ k. broadcast_length k c)) (broadcast_none a b d p r) ∙ elim (by_eq b c) [
          | inl f ↦ sym (ap (option_and_then (λ k. broadcast_length a k)) (broadcast_same b c f) ∙ broadcast_none a b d p r)
          | inr f ↦ sym (ap (option_and_then (λ k. broadcast_length a k)) (broadcast_none b c f r q))
        ]
      ]
    ]
  ]
]

-- a row is true, or false, or neither
by_boolean : (P : Bool → Bool → Type 0) → P true false → P false true → P false false → (x : Row) → P (is_true x) (is_false x)
by_boolean P a b c (Some (BooleanValue true)) = a
by_boolean P a b c (Some (BooleanValue false)) = b
by_boolean P a b c (Some (StringValue s)) = c
by_boolean P a b c (Some (IntegerValue z)) = c
by_boolean P a b c None = c

-- and, or and not by whether the operands are true and whether they are false
abbrev both : Bool → Bool → Bool → Bool → Row
both t f u g = decided_row (t && u) (f || g)

abbrev either : Bool → Bool → Bool → Bool → Row
either t f u g = decided_row (t || u) (f && g)

abbrev Both-commutes : Bool → Bool → Bool → Bool → Type 0
Both-commutes t f u g = both t f u g ≡ both u g t f

abbrev Either-commutes : Bool → Bool → Bool → Bool → Type 0
Either-commutes t f u g = either t f u g ≡ either u g t f

-- by cases on two rows
by_two : (P : Bool → Bool → Bool → Bool → Type 0)
    → P true false true false → P true false false true → P true false false false
    → P false true true false → P false true false true → P false true false false
    → P false false true false → P false false false true → P false false false false
    → (x y : Row) → P (is_true x) (is_false x) (is_true y) (is_false y)
by_two P a b c d e f g h i x y =
    by_boolean (λ t u. P t u (is_true y) (is_false y))
    (by_boolean (P true false) a b c y) (by_boolean (P false true) d e f y) (by_boolean (P false false) g h i y) x

pub and_commutes : (x y : Row) → and_row x y ≡ and_row y x
and_commutes = by_two Both-commutes refl refl refl refl refl refl refl refl refl

pub or_commutes : (x y : Row) → or_row x y ≡ or_row y x
or_commutes = by_two Either-commutes refl refl refl refl refl refl refl refl refl

abbrev Not-of-and : Bool → Bool → Bool → Bool → Type 0
Not-of-and t f u g = not_row (both t f u g) ≡ or_row (decided_row f t) (decided_row g u)

abbrev Not-of-or : Bool → Bool → Bool → Bool → Type 0
Not-of-or t f u g = not_row (either t f u g) ≡ and_row (decided_row f t) (decided_row g u)

pub not-and : (x y : Row) → not_row (and_row x y) ≡ or_row (not_row x) (not_row y)
not-and = by_two Not-of-and refl refl refl refl refl refl refl refl refl

pub not-or : (x y : Row) → not_row (or_row x y) ≡ and_row (not_row x) (not_row y)
not-or = by_two Not-of-or refl refl refl refl refl refl refl refl refl

pub and_associates : (x y z : Row) → and_row (and_row x y) z ≡ and_row x (and_row y z)
and_associates x y z = by_boolean (λ t f. both (is_true (both t f (is_true y) (is_false y))) (is_false (both t f (is_true y) (is_false y))) (is_true z) (is_false z) ≡ both t f (is_true (and_row y z)) (is_false (and_row y z)))
    (by_two (λ u g v h. both (is_true (both true false u g)) (is_false (both true false u g)) v h ≡ both true false (is_true (both u g v h)) (is_false (both u g v h))) refl refl refl refl refl refl refl refl refl y z)
    (by_two (λ u g v h. both (is_true (both false true u g)) (is_false (both false true u g)) v h ≡ both false true (is_true (both u g v h)) (is_false (both u g v h))) refl refl refl refl refl refl refl refl refl y z)
    (by_two (λ u g v h. both (is_true (both false false u g)) (is_false (both false false u g)) v h ≡ both false false (is_true (both u g v h)) (is_false (both u g v h))) refl refl refl refl refl refl refl refl refl y z)
    x

pub or_associates : (x y z : Row) → or_row (or_row x y) z ≡ or_row x (or_row y z)
or_associates x y z = by_boolean (λ t f. either (is_true (either t f (is_true y) (is_false y))) (is_false (either t f (is_true y) (is_false y))) (is_true z) (is_false z) ≡ either t f (is_true (or_row y z)) (is_false (or_row y z)))
    (by_two (λ u g v h. either (is_true (either true false u g)) (is_false (either true false u g)) v h ≡ either true false (is_true (either u g v h)) (is_false (either u g v h))) refl refl refl refl refl refl refl refl refl y z)
    (by_two (λ u g v h. either (is_true (either false true u g)) (is_false (either false true u g)) v h ≡ either false true (is_true (either u g v h)) (is_false (either u g v h))) refl refl refl refl refl refl refl refl refl y z)
    (by_two (λ u g v h. either (is_true (either false false u g)) (is_false (either false false u g)) v h ≡ either false false (is_true (either u g v h)) (is_false (either u g v h))) refl refl refl refl refl refl refl refl refl y z)
    x

pub not-not : (x : Row) → IsRowOf Boolean x → not_row (not_row x) ≡ x
not-not (Some (BooleanValue true)) h = refl
not-not (Some (BooleanValue false)) h = refl
not-not (Some (StringValue s)) h = absurd h
not-not (Some (IntegerValue z)) h = absurd h
not-not None h = refl

both_some : (a b : Bool) → a && b ≡ b && a
both_some true true = refl
both_some true false = refl
both_some false true = refl
both_some false false = refl

differ : (a b : Bool) → cond a (not b) b ≡ cond b (not a) a
differ true true = refl
differ true false = refl
differ false true = refl
differ false false = refl

pub xor_commutes : (x y : Row) → xor_row x y ≡ xor_row y x
xor_commutes x y = ap (λ t. boolean_entry t (is_some x && is_some y)) (differ (is_true x) (is_true y)) ∙ ap (boolean_entry (cond (is_true y) (not (is_true x)) (is_true x))) (both_some (is_some x) (is_some y))
