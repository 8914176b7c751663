-- The least and the greatest of rows of one type, as a fold of a step of two rows.
use Rattle.std.proofs.Common.{◌≡◌, ◌∙◌, ◌&&◌, ◌||◌, ◌⊎◌, inl, inr, ℕ, ℤ, Bool, true, false, not, cond, List, [], ◌∷◌, sym, ap, refl, subst, arith, Some, None, is_some, length, nat_lt, ◌<ℤ◌}
use Rattle.std.specs.Option.{unwrap_or}
use Rattle.std.specs.List.{list_any, find, fold, position, prefix_len}
use Rattle.std.specs.Cmp.{IsTotalOrder, IsStrictWeakOrder, bool_cmp_total}
use Rattle.std.specs.Cmp.Lexicographic.{slice_cmp, same_text}
use Rattle.std.specs.Ordering.{is_lt, is_eq, nat_cmp, int_cmp, bool_cmp, ordering_reverse, MatchOrdering}
use Rattle.std.specs.declared.cmp.Ordering.{Ordering}
use Rattle.std.specs.declared.cmp.Ordering.TheVariants.{Less, Equal, Greater}
use Rattle.std.specs.Simd.Lanes.{Each1}
use Rattle.std.proofs.lemmas.Bool.{both_ways, or_parts, or_from, or_left, or_right, not-true, not_from_false, false_from_ne_true, cond_both}
use Rattle.std.proofs.lemmas.Cmp.{int_cmp_total, nat_list_cmp_total, int_ranked, tied_itself}
use Rattle.std.proofs.lemmas.List.MinMax.{ranks_by}
use Rattle.std.proofs.lemmas.Map.Text.{is_eq-slice_cmp}
use Rattle.px_types.specs.Integers.{InRange}
use Rattle.px_types.specs.declared.value_type.ValueType.{ValueType}
use Rattle.px_types.specs.declared.value_type.ValueType.TheVariants as value_type
use Rattle.px_extremes.specs.Choices.{better, is_less, is_greater, lesser, greater}
use Rattle.px_semantics.specs.Comparisons.{order, less, equal, both_pass}
use Rattle.px_semantics.specs.Extremes.{is_least, is_greatest, min_row, max_row, arg_min_row, arg_max_row, position_row}
use Rattle.px_semantics.specs.Rows.{Datum, BooleanValue, StringValue, IntegerValue, Row, IsRowOf, IsBoolean, IsString}

-- ---- the best of rows, by any test of which of two rows beats the other

-- the row is a value, and no row of the list beats it
abbrev pub is_best : (Row → Row → Bool) → List Row → Row → Bool
is_best beats rows row = is_some row && not (list_any (λ other. beats other row) rows)

-- the first row that is best, null where there is none
abbrev pub best_row : (Row → Row → Bool) → List Row → Row
best_row beats rows = unwrap_or (find (is_best beats rows) rows) None

-- the step from the last row on
abbrev pub best_by_steps : (Row → Row → Bool) → List Row → Row
best_by_steps beats [] = None
best_by_steps beats (x ∷ xs) = better beats x (best_by_steps beats xs)

-- the row is one of the list
abbrev pub IsAmong : List Row → Row → Type 0
IsAmong [] row = ⊥
IsAmong (x ∷ xs) row = (x ≡ row) ⊎ IsAmong xs row

-- on values of which P holds, `beats` is a strict total order, and a null neither beats nor is beaten
pub record Ranks (P : Row → Type 0) (beats : Row → Row → Bool) : Type 0 where
  pub null_typed : P None
  pub null_beats : (y : Row) → beats None y ≡ false
  pub beats_null : (x : Row) → beats x None ≡ false
  pub one_way : (x y : Datum) → P (Some x) → P (Some y) → beats (Some x) (Some y) ≡ true → beats (Some y) (Some x) ≡ false
  pub chain : (x y z : Datum) → P (Some x) → P (Some y) → P (Some z) → beats (Some x) (Some y) ≡ false → beats (Some y) (Some z) ≡ false → beats (Some x) (Some z) ≡ false
  pub tie : (x y : Datum) → P (Some x) → P (Some y) → beats (Some x) (Some y) ≡ false → beats (Some y) (Some x) ≡ false → x ≡ y

-- the row is null where all rows are, and else one of them that no row beats
pub record Leads (beats : Row → Row → Bool) (rows : List Row) (row : Row) : Type 0 where
  pub unbeaten : list_any (λ other. beats other row) rows ≡ false
  pub same_some : is_some row ≡ list_any is_some rows
  pub among : is_some row ≡ true → IsAmong rows row

value_among : (xs : List Row) (x : Datum) → IsAmong xs (Some x) → list_any is_some xs ≡ true
value_among [] x m = absurd m
value_among (None ∷ xs) x (inl e) = cc
value_among (None ∷ xs) x (inr m) = value_among xs x m
value_among (Some y ∷ xs) x m = refl

typed_among : (P : Row → Type 0) (xs : List Row) (x : Row) → Each1 P xs → IsAmong xs x → P x
typed_among P [] x h m = absurd m
typed_among P (y ∷ ys) x h (inl e) = subst P e h.0
typed_among P (y ∷ ys) x h (inr m) = typed_among P ys x h.1 m

first_positions : (p q : Row → Bool) (xs : List Row) → ((x : Row) → IsAmong xs x → p x ≡ q x) → prefix_len (λ x. not (p x)) xs ≡ prefix_len (λ x. not (q x)) xs
first_positions p q [] h = refl
first_positions p q (x ∷ xs) h =
    let here : p x ≡ q x = h x (inl refl) in
    let rest : prefix_len (λ y. not (p y)) xs ≡ prefix_len (λ y. not (q y)) xs = first_positions p q xs (λ y m. h y (inr m)) in
    cc

module _ (beats : Row → Row → Bool) (P : Row → Type 0) (laws : Ranks P beats) where
  never_itself : (x : Datum) → P (Some x) → beats (Some x) (Some x) ≡ false
  never_itself x p = false_from_ne_true (beats (Some x) (Some x)) (λ e. both_ways (beats (Some x) (Some x)) (laws.one_way x x p p e) e)

  no_value_beats : (xs : List Row) (y : Row) → list_any is_some xs ≡ false → list_any (λ other. beats other y) xs ≡ false
  no_value_beats [] y e = refl
  no_value_beats (None ∷ xs) y e = or_from (beats None y) (list_any (λ other. beats other y) xs) (laws.null_beats y) (no_value_beats xs y e)
  no_value_beats (Some x ∷ xs) y e = cc

  -- what no row beats, and what it does not lose to, no row beats
  unbeaten_chain : (xs : List Row) (y z : Datum) → Each1 P xs → P (Some y) → P (Some z) → list_any (λ other. beats other (Some y)) xs ≡ false → beats (Some y) (Some z) ≡ false → list_any (λ other. beats other (Some z)) xs ≡ false
  unbeaten_chain [] y z h p q u e = refl
  unbeaten_chain (None ∷ xs) y z h p q u e =
      let parts = or_parts (beats None (Some y)) (list_any (λ other. beats other (Some y)) xs) u in
      or_from (beats None (Some z)) (list_any (λ other. beats other (Some z)) xs) (laws.null_beats (Some z)) (unbeaten_chain xs y z h.1 p q parts.1 e)
  unbeaten_chain (Some x ∷ xs) y z h p q u e =
      let parts = or_parts (beats (Some x) (Some y)) (list_any (λ other. beats other (Some y)) xs) u in
      or_from (beats (Some x) (Some z)) (list_any (λ other. beats other (Some z)) xs) (laws.chain x y z h.0 p q parts.0 e) (unbeaten_chain xs y z h.1 p q parts.1 e)

  first_leads : (a : Datum) (r : Row) (xs : List Row) → P (Some a) → P r → Each1 P xs → Leads beats xs r → beats r (Some a) ≡ false → Leads beats (Some a ∷ xs) (Some a)
  first_leads a None xs p q h l e = record {
    unbeaten = or_from (beats (Some a) (Some a)) (list_any (λ other. beats other (Some a)) xs) (never_itself a p) (no_value_beats xs (Some a) (sym l.same_some));
    same_some = refl;
    among = λ _. inl refl;
  }
  first_leads a (Some c) xs p q h l e = record {
    unbeaten = or_from (beats (Some a) (Some a)) (list_any (λ other. beats other (Some a)) xs) (never_itself a p) (unbeaten_chain xs c a h q p l.unbeaten e);
    same_some = refl;
    among = λ _. inl refl;
  }

  second_leads : (a : Datum) (r : Row) (xs : List Row) → P (Some a) → P r → Leads beats xs r → beats r (Some a) ≡ true → Leads beats (Some a ∷ xs) r
  second_leads a None xs p q l e = absurd (both_ways (beats None (Some a)) (laws.null_beats (Some a)) e)
  second_leads a (Some c) xs p q l e = record {
    unbeaten = or_from (beats (Some a) (Some c)) (list_any (λ other. beats other (Some c)) xs) (laws.one_way c a q p e) l.unbeaten;
    same_some = refl;
    among = λ s. inr (l.among s);
  }

  leads_more : (x r : Row) (xs : List Row) → P x → P r → Each1 P xs → Leads beats xs r → Leads beats (x ∷ xs) (better beats x r)
  leads_more None r xs p q h l = record {
    unbeaten = or_from (beats None r) (list_any (λ other. beats other r) xs) (laws.null_beats r) l.unbeaten;
    same_some = l.same_some;
    among = λ s. inr (l.among s);
  }
  leads_more (Some a) r xs p q h l = by (beats r (Some a)) refl
    where
      by : (b : Bool) → beats r (Some a) ≡ b → Leads beats (Some a ∷ xs) (cond b r (Some a))
      by true e = second_leads a r xs p q l e
      by false e = first_leads a r xs p q h l e

  better_typed : (x y : Row) → P x → P y → P (better beats x y)
  better_typed None y p q = q
  better_typed (Some x) y p q = cond_both (beats y (Some x)) y (Some x) P (λ e. q) (λ e. p)

  steps_typed : (xs : List Row) → Each1 P xs → P (best_by_steps beats xs)
  steps_typed [] h = laws.null_typed
  steps_typed (x ∷ xs) h = better_typed x (best_by_steps beats xs) h.0 (steps_typed xs h.1)

  steps_lead : (xs : List Row) → Each1 P xs → Leads beats xs (best_by_steps beats xs)
  steps_lead [] h = record { unbeaten = refl; same_some = refl; among = λ e. cc }
  steps_lead (x ∷ xs) h = leads_more x (best_by_steps beats xs) xs h.0 (steps_typed xs h.1) h.1 (steps_lead xs h.1)

  find_null : (all xs : List Row) → list_any is_some xs ≡ false → find (is_best beats all) xs ≡ None
  find_null all [] e = refl
  find_null all (None ∷ xs) e = find_null all xs e
  find_null all (Some x ∷ xs) e = cc

  not_beaten_by : (xs : List Row) (x y : Row) → IsAmong xs x → list_any (λ other. beats other y) xs ≡ false → beats x y ≡ false
  not_beaten_by [] x y m u = absurd m
  not_beaten_by (z ∷ xs) x y (inl e) u = ap (λ w. beats w y) (sym e) ∙ (or_parts (beats z y) (list_any (λ other. beats other y) xs) u).0
  not_beaten_by (z ∷ xs) x y (inr m) u = not_beaten_by xs x y m (or_parts (beats z y) (list_any (λ other. beats other y) xs) u).1

  -- what is best among all is the leader
  best_is_leader : (all : List Row) (v w : Datum) → P (Some v) → P (Some w) → Leads beats all (Some v) → IsAmong all (Some w) → is_best beats all (Some w) ≡ true → w ≡ v
  best_is_leader all v w p q l m e =
      laws.tie w v q p (not_beaten_by all (Some w) (Some v) m l.unbeaten)
      (not_beaten_by all (Some v) (Some w) (l.among refl) (not-true (list_any (λ other. beats other (Some w)) all) e))

  leader_is_best : (all : List Row) (v : Datum) → Leads beats all (Some v) → is_best beats all (Some v) ≡ true
  leader_is_best all v l = not_from_false (list_any (λ other. beats other (Some v)) all) l.unbeaten

  find_leader : (all xs : List Row) (v : Datum) → P (Some v) → Each1 P xs → Leads beats all (Some v) → ((x : Row) → IsAmong xs x → IsAmong all x) → IsAmong xs (Some v) → find (is_best beats all) xs ≡ Some (Some v)
  find_leader all [] v p h l within m = absurd m
  find_leader all (None ∷ xs) v p h l within (inl e) = cc
  find_leader all (None ∷ xs) v p h l within (inr m) = find_leader all xs v p h.1 l (λ x n. within x (inr n)) m
  find_leader all (Some w ∷ xs) v p h l within m = by (is_best beats all (Some w)) refl m (λ n. find_leader all xs v p h.1 l (λ x k. within x (inr k)) n)
    where
      by : (b : Bool) → is_best beats all (Some w) ≡ b → IsAmong (Some w ∷ xs) (Some v) → (IsAmong xs (Some v) → find (is_best beats all) xs ≡ Some (Some v)) → cond b (Some (Some w)) (find (is_best beats all) xs) ≡ Some (Some v)
      by true e n rest = ap (λ d. Some (Some d)) (best_is_leader all v w p h.0 l (within (Some w) (inl refl)) e)
      by false e (inl f) rest = absurd (both_ways (is_best beats all (Some w)) e (ap (is_best beats all) f ∙ leader_is_best all v l))
      by false e (inr n) rest = rest n

  best_is : (xs : List Row) (r : Row) → Each1 P xs → P r → Leads beats xs r → best_row beats xs ≡ r
  best_is xs None h p l = ap (λ o. unwrap_or o None) (find_null xs xs (sym l.same_some))
  best_is xs (Some v) h p l = ap (λ o. unwrap_or o None) (find_leader xs xs v p h l (λ x m. m) (l.among refl))

  best_by : (xs : List Row) → Each1 P xs → best_row beats xs ≡ best_by_steps beats xs
  best_by xs h = best_is xs (best_by_steps beats xs) h (steps_typed xs h) (steps_lead xs h)

  -- the best of a row and others
  pub best_row-cons : (x : Row) (xs : List Row) → P x → Each1 P xs → best_row beats (x ∷ xs) ≡ better beats x (best_row beats xs)
  best_row-cons x xs p h = best_by (x ∷ xs) (p, h) ∙ ap (better beats x) (sym (best_by xs h))

  better_null : (x : Row) → better beats x None ≡ x
  better_null None = refl
  better_null (Some x) = ap (λ b. cond b None (Some x)) (laws.null_beats (Some x))

  pub better_assoc : (x y z : Row) → P x → P y → P z → better beats (better beats x y) z ≡ better beats x (better beats y z)
  better_assoc None y z p q r = refl
  better_assoc (Some a) None z p q r = ap (λ b. better beats (cond b None (Some a)) z) (laws.null_beats (Some a))
  better_assoc (Some a) (Some b) None p q r = better_null (better beats (Some a) (Some b)) ∙ sym (ap (better beats (Some a)) (better_null (Some b)))
  better_assoc (Some a) (Some b) (Some c) p q r = by (beats (Some b) (Some a)) (beats (Some c) (Some b)) (beats (Some c) (Some a)) refl refl refl
    where
      by : (t u s : Bool) → beats (Some b) (Some a) ≡ t → beats (Some c) (Some b) ≡ u → beats (Some c) (Some a) ≡ s
          → better beats (cond t (Some b) (Some a)) (Some c) ≡ better beats (Some a) (cond u (Some c) (Some b))
      by true true true d e f = ap (λ k. cond k (Some c) (Some b)) e ∙ sym (ap (λ k. cond k (Some c) (Some a)) f)
      by true true false d e f = absurd (both_ways (beats (Some c) (Some b)) (laws.chain c a b r p q f (laws.one_way b a q p d)) e)
      by true false s d e f = ap (λ k. cond k (Some c) (Some b)) e ∙ sym (ap (λ k. cond k (Some b) (Some a)) d)
      by false true s d e f = refl
      by false false s d e f = ap (λ k. cond k (Some c) (Some a)) (laws.chain c b a r q p e d) ∙ sym (ap (λ k. cond k (Some b) (Some a)) d)

  fold_better : (a : Row) (xs : List Row) → P a → Each1 P xs → fold (better beats) a xs ≡ better beats a (best_by_steps beats xs)
  fold_better a [] p h = sym (better_null a)
  fold_better a (x ∷ xs) p h = fold_better (better beats a x) xs (better_typed a x p h.0) h.1 ∙ better_assoc a x (best_by_steps beats xs) p h.0 (steps_typed xs h.1)

  -- the best of rows, from the first on
  pub best_row_fold : (xs : List Row) → Each1 P xs → best_row beats xs ≡ fold (better beats) None xs
  best_row_fold xs h = best_by xs h ∙ sym (fold_better None xs laws.null_typed h)

  pub best_row_typed : (xs : List Row) → Each1 P xs → P (best_row beats xs)
  best_row_typed xs h = subst P (sym (best_by xs h)) (steps_typed xs h)

  best_leads : (xs : List Row) → Each1 P xs → Leads beats xs (best_row beats xs)
  best_leads xs h = subst (Leads beats xs) (sym (best_by xs h)) (steps_lead xs h)

  module _ (same : (x y : Datum) → P (Some x) → P (Some y) → equal x y ≡ true → x ≡ y) (itself : (x : Datum) → equal x x ≡ true) where
    equals_leader : (all : List Row) (m x : Row) → P m → P x → Leads beats all m → IsAmong all x → is_best beats all x ≡ both_pass equal x m
    equals_leader all m None p q l a = refl
    equals_leader all None (Some w) p q l a = absurd (both_ways (list_any is_some all) (sym l.same_some) (value_among all w a))
    equals_leader all (Some v) (Some w) p q l a = by (is_best beats all (Some w)) (equal w v) refl refl
      where
        by : (b c : Bool) → is_best beats all (Some w) ≡ b → equal w v ≡ c → is_best beats all (Some w) ≡ equal w v
        by true true d e = d ∙ sym e
        by true false d e = absurd (both_ways (equal w v) e (ap (equal w) (sym (best_is_leader all v w p q l a d)) ∙ itself w))
        by false true d e = absurd (both_ways (is_best beats all (Some w)) d (ap (λ y. is_best beats all (Some y)) (same w v q p e) ∙ leader_is_best all v l))
        by false false d e = d ∙ sym e

    -- the first best row is the first that equals the best value
    pub best_position : (xs : List Row) → Each1 P xs → position (is_best beats xs) xs ≡ position (λ row. both_pass equal row (best_row beats xs)) xs
    best_position xs h =
        let m : Row = best_row beats xs in
        let first = first_positions (is_best beats xs) (λ row. both_pass equal row m) xs (λ x a. equals_leader xs m x (best_row_typed xs h) (typed_among P xs x h a) (best_leads xs h) a) in
        ap (λ n. cond (nat_lt n (length xs)) (Some n) None) first

-- ---- the order of values of one type

pub no_string : (t : ValueType) → IsBoolean t → IsString t → ⊥
no_string value_type.Boolean b s = s
no_string _ b s = b

pub no_boolean : (t : ValueType) (z : ℤ) → InRange t z → IsBoolean t → ⊥
no_boolean value_type.Boolean z n b = n
no_boolean _ z n b = b

pub no_number : (t : ValueType) (z : ℤ) → InRange t z → IsString t → ⊥
no_number value_type.String z n s = n
no_number _ z n s = s

less_one_way : (x y : Datum) → less x y ≡ true → less y x ≡ false
less_one_way (BooleanValue a) (BooleanValue b) e = (ranks_by bool_cmp_total (λ (x : Bool). x)).one_way a b e
less_one_way (BooleanValue a) (StringValue b) e = refl
less_one_way (BooleanValue a) (IntegerValue b) e = refl
less_one_way (StringValue a) (BooleanValue b) e = refl
less_one_way (StringValue a) (StringValue b) e = (ranks_by nat_list_cmp_total (λ (x : List ℕ). x)).one_way a b e
less_one_way (StringValue a) (IntegerValue b) e = refl
less_one_way (IntegerValue a) (BooleanValue b) e = refl
less_one_way (IntegerValue a) (StringValue b) e = refl
less_one_way (IntegerValue a) (IntegerValue b) e = (ranks_by int_cmp_total (λ (x : ℤ). x)).one_way a b e

less_chain : (t : ValueType) (x y z : Datum) → IsRowOf t (Some x) → IsRowOf t (Some y) → IsRowOf t (Some z) → less x y ≡ false → less y z ≡ false → less x z ≡ false
less_chain t (BooleanValue a) (BooleanValue b) (BooleanValue c) p q r d e = (ranks_by bool_cmp_total (λ (x : Bool). x)).chain a b c d e
less_chain t (StringValue a) (StringValue b) (StringValue c) p q r d e = (ranks_by nat_list_cmp_total (λ (x : List ℕ). x)).chain a b c d e
less_chain t (IntegerValue a) (IntegerValue b) (IntegerValue c) p q r d e = (ranks_by int_cmp_total (λ (x : ℤ). x)).chain a b c d e
less_chain t (BooleanValue a) (StringValue b) (BooleanValue c) p q r d e = absurd (no_string t p q)
less_chain t (BooleanValue a) (IntegerValue b) (BooleanValue c) p q r d e = absurd (no_boolean t b q p)
less_chain t (StringValue a) (BooleanValue b) (StringValue c) p q r d e = absurd (no_string t q p)
less_chain t (StringValue a) (IntegerValue b) (StringValue c) p q r d e = absurd (no_number t b q p)
less_chain t (IntegerValue a) (BooleanValue b) (IntegerValue c) p q r d e = absurd (no_boolean t a p q)
less_chain t (IntegerValue a) (StringValue b) (IntegerValue c) p q r d e = absurd (no_number t a p q)
less_chain t x y z p q r d e = refl

tied : {K : Type 0} {R : K → K → Ordering} (o : IsTotalOrder R) → (x y : K) → is_lt (R x y) ≡ false → is_lt (R y x) ≡ false → is_eq (R x y) ≡ true
tied {R = R} o x y d e = by (R x y) (R y x) (o.antisymm x y) d e
  where
    by : (a b : Ordering) → a ≡ ordering_reverse b → is_lt a ≡ false → is_lt b ≡ false → is_eq a ≡ true
    by Less b f p q = cc
    by Equal b f p q = refl
    by Greater Less f p q = cc
    by Greater Equal f p q = cc
    by Greater Greater f p q = cc

same_booleans : (a b : Bool) → is_eq (bool_cmp a b) ≡ true → a ≡ b
same_booleans true true e = refl
same_booleans true false e = cc
same_booleans false true e = cc
same_booleans false false e = refl

same_integers : (a b : ℤ) → is_eq (int_cmp a b) ≡ true → a ≡ b
same_integers a b e = by (int_cmp a b) (int_ranked a b (int_cmp a b) refl) e
  where
    by : (o : Ordering) → MatchOrdering o (a <ℤ b) (a ≡ b) (b <ℤ a) → is_eq o ≡ true → a ≡ b
    by Less m f = cc
    by Equal m f = m
    by Greater m f = cc

same_strings : (a b : List ℕ) → is_eq (slice_cmp nat_cmp a b) ≡ true → a ≡ b
same_strings a b e = same_text a b (sym (sym (is_eq-slice_cmp a b) ∙ e))

-- values of one type that the order ties are equal
pub same_values : (t : ValueType) (x y : Datum) → IsRowOf t (Some x) → IsRowOf t (Some y) → equal x y ≡ true → x ≡ y
same_values t (BooleanValue a) (BooleanValue b) p q e = ap BooleanValue (same_booleans a b e)
same_values t (BooleanValue a) (StringValue b) p q e = absurd (no_string t p q)
same_values t (BooleanValue a) (IntegerValue b) p q e = absurd (no_boolean t b q p)
same_values t (StringValue a) (BooleanValue b) p q e = absurd (no_string t q p)
same_values t (StringValue a) (StringValue b) p q e = ap StringValue (same_strings a b e)
same_values t (StringValue a) (IntegerValue b) p q e = absurd (no_number t b q p)
same_values t (IntegerValue a) (BooleanValue b) p q e = absurd (no_boolean t a p q)
same_values t (IntegerValue a) (StringValue b) p q e = absurd (no_number t a p q)
same_values t (IntegerValue a) (IntegerValue b) p q e = ap IntegerValue (same_integers a b e)

less_tie : (t : ValueType) (x y : Datum) → IsRowOf t (Some x) → IsRowOf t (Some y) → less x y ≡ false → less y x ≡ false → equal x y ≡ true
less_tie t (BooleanValue a) (BooleanValue b) p q d e = tied bool_cmp_total a b d e
less_tie t (StringValue a) (StringValue b) p q d e = tied nat_list_cmp_total a b d e
less_tie t (IntegerValue a) (IntegerValue b) p q d e = tied int_cmp_total a b d e
less_tie t x y p q d e = refl

equals_itself : (x : Datum) → equal x x ≡ true
equals_itself (BooleanValue a) = ap is_eq (tied_itself bool_cmp_total a)
equals_itself (StringValue a) = ap is_eq (tied_itself nat_list_cmp_total a)
equals_itself (IntegerValue a) = ap is_eq (tied_itself int_cmp_total a)

-- ---- the least and the greatest row

null_is_greater : (x : Row) → is_greater None x ≡ false
null_is_greater None = refl
null_is_greater (Some x) = refl

less_than_null : (x : Row) → is_less x None ≡ false
less_than_null None = refl
less_than_null (Some x) = refl

pub less_ranks : (t : ValueType) → Ranks (IsRowOf t) is_less
less_ranks t = record {
  null_typed = tt;
  null_beats = λ y. refl;
  beats_null = less_than_null;
  one_way = λ x y p q e. less_one_way x y e;
  chain = less_chain t;
  tie = λ x y p q d e. same_values t x y p q (less_tie t x y p q d e);
}

pub greater_ranks : (t : ValueType) → Ranks (IsRowOf t) is_greater
greater_ranks t = record {
  null_typed = tt;
  null_beats = null_is_greater;
  beats_null = λ x. refl;
  one_way = λ x y p q e. less_one_way y x e;
  chain = λ x y z p q r d e. less_chain t z y x r q p e d;
  tie = λ x y p q d e. same_values t x y p q (less_tie t x y p q e d);
}

pub min_row-cons : (t : ValueType) (x : Row) (xs : List Row) → IsRowOf t x → Each1 (IsRowOf t) xs → min_row (x ∷ xs) ≡ lesser x (min_row xs)
min_row-cons t x xs p h = best_row-cons is_less (IsRowOf t) (less_ranks t) x xs p h

pub max_row-cons : (t : ValueType) (x : Row) (xs : List Row) → IsRowOf t x → Each1 (IsRowOf t) xs → max_row (x ∷ xs) ≡ greater x (max_row xs)
max_row-cons t x xs p h = best_row-cons is_greater (IsRowOf t) (greater_ranks t) x xs p h

pub min_row_fold : (t : ValueType) (rows : List Row) → Each1 (IsRowOf t) rows → min_row rows ≡ fold lesser None rows
min_row_fold t rows h = best_row_fold is_less (IsRowOf t) (less_ranks t) rows h

pub max_row_fold : (t : ValueType) (rows : List Row) → Each1 (IsRowOf t) rows → max_row rows ≡ fold greater None rows
max_row_fold t rows h = best_row_fold is_greater (IsRowOf t) (greater_ranks t) rows h

-- rows of a type have a least and a greatest row of the type
pub min_row_typed : (t : ValueType) (rows : List Row) → Each1 (IsRowOf t) rows → IsRowOf t (min_row rows)
min_row_typed t rows h = best_row_typed is_less (IsRowOf t) (less_ranks t) rows h

pub max_row_typed : (t : ValueType) (rows : List Row) → Each1 (IsRowOf t) rows → IsRowOf t (max_row rows)
max_row_typed t rows h = best_row_typed is_greater (IsRowOf t) (greater_ranks t) rows h

-- the first position of the least row is that of the first row that equals it; and the same of the greatest
pub arg_min_row_is : (t : ValueType) (rows : List Row) → Each1 (IsRowOf t) rows → arg_min_row rows ≡ position_row (position (λ row. both_pass equal row (min_row rows)) rows)
arg_min_row_is t rows h = ap position_row (best_position is_less (IsRowOf t) (less_ranks t) (same_values t) equals_itself rows h)

pub arg_max_row_is : (t : ValueType) (rows : List Row) → Each1 (IsRowOf t) rows → arg_max_row rows ≡ position_row (position (λ row. both_pass equal row (max_row rows)) rows)
arg_max_row_is t rows h = ap position_row (best_position is_greater (IsRowOf t) (greater_ranks t) (same_values t) equals_itself rows h)
