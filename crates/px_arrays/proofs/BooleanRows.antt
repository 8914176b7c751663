-- Three-valued logic on two bitmaps.
use Rattle.std.proofs.Common.{sym, ◌<◌, Option, Some, map, is_some, unwrap_or, ◌≡◌, Bool, true, false, ◌&&◌, ◌||◌, cond, not, List, [], ◌∷◌, length, refl, ap, ◌∙◌, None, suc, zero, replicate, get_or, arith, ℕ}
use Rattle.std.specs.Simd.Lanes.{zip2, Each1}
use Rattle.std.proofs.lemmas.List.{length-map, length-replicate, map-id}
use Rattle.std.proofs.lemmas.Simd.{length-zip2, zip2_splat_left}
use Rattle.px_semantics.specs.Rows.{Row, boolean_entry, boolean_row, BooleanValue, StringValue, IntegerValue, IsRowOf}
use Rattle.px_types.specs.declared.value_type.ValueType.TheVariants.{Boolean}
use Rattle.px_types.specs.declared.operator.Operator.{Operator}
use Rattle.px_types.specs.declared.operator.Operator.TheVariants.{And, Or, Xor}
use Rattle.px_semantics.specs.Logic.{is_true, is_false, decided_row, and_row, or_row, xor_row, not_row, boolean_logic_row, IsLogic}
use Rattle.px_arrays.specs.BitmapOf.{AreBitmaps, non_null}
use Rattle.px_arrays.proofs.Bitmaps.{map_same}
use Rattle.px_arrays.proofs.Entries.{map-const}

-- f and g of what p and q read of two lists, place by place
pub zip2_both : {A B C D E F : Type 0} (s : D → E → F) (f : B → B → D) (g : C → C → E) (p : A → B) (q : A → C) (xs ys : List A)
    → zip2 s (zip2 f (map p xs) (map p ys)) (zip2 g (map q xs) (map q ys)) ≡ zip2 (λ x y. s (f (p x) (p y)) (g (q x) (q y))) xs ys
zip2_both s f g p q [] ys = refl
zip2_both s f g p q (x ∷ xs) [] = refl
zip2_both s f g p q (x ∷ xs) (y ∷ ys) = ap (λ l. s (f (p x) (p y)) (g (q x) (q y)) ∷ l) (zip2_both s f g p q xs ys)

-- the lengths of a function of two lists
pub length_both : {A B C : Type 0} (f : B → B → C) (p : A → B) (xs ys : List A) → length xs ≡ length ys → length (zip2 f (map p xs) (map p ys)) ≡ length xs
length_both f p xs ys h = length-zip2 f (map p xs) (map p ys) (length-map xs p ∙ h ∙ sym (length-map ys p)) ∙ length-map xs p

-- the bits of ts are among those of ts or xs
among : (t x : Bool) → t && (t || x) ≡ t
among true x = refl
among false x = refl

pub or_within : (ts xs : List Bool) → length ts ≡ length xs → zip2 (λ a b. a && b) ts (zip2 (λ a b. a || b) ts xs) ≡ ts
or_within [] xs h = refl
or_within (t ∷ ts) [] h = cc
or_within (t ∷ ts) (x ∷ xs) h = let e = among t x in let es = or_within ts xs (omega arith) in cc

pub length-booleans : (ts vs : List Bool) → AreBitmaps ts vs → length (zip2 boolean_entry ts vs) ≡ length ts
length-booleans ts vs p = length-zip2 boolean_entry ts vs p.same_length

masked_entry : (f v : Bool) → boolean_entry (f && v) v ≡ boolean_entry f v
masked_entry true true = refl
masked_entry false true = refl
masked_entry f false = refl

-- a flag that is not valid does not count
pub masked : (fs vs : List Bool) → zip2 boolean_entry (zip2 (λ f v. f && v) fs vs) vs ≡ zip2 boolean_entry fs vs
masked [] vs = refl
masked (f ∷ fs) [] = refl
masked (f ∷ fs) (v ∷ vs) = let here = masked_entry f v in let rest = masked fs vs in cc

twice_and : (f v : Bool) → (f && v) && v ≡ f && v
twice_and true true = refl
twice_and true false = refl
twice_and false v = refl

pub and_within : (fs vs : List Bool) → zip2 (λ f v. f && v) (zip2 (λ f v. f && v) fs vs) vs ≡ zip2 (λ f v. f && v) fs vs
and_within [] vs = refl
and_within (f ∷ fs) [] = refl
and_within (f ∷ fs) (v ∷ vs) = let here = twice_and f v in let rest = and_within fs vs in cc

-- each row is null or a Boolean
pub booleans_typed : (ts vs : List Bool) → Each1 (IsRowOf Boolean) (zip2 boolean_entry ts vs)
booleans_typed [] vs = tt
booleans_typed (t ∷ ts) [] = tt
booleans_typed (t ∷ ts) (true ∷ vs) = (tt, booleans_typed ts vs)
booleans_typed (t ∷ ts) (false ∷ vs) = (tt, booleans_typed ts vs)

-- a row that is repeated, bitmap by bitmap
booleans_repeated : (n : ℕ) (t v : Bool) → zip2 boolean_entry (replicate n t) (replicate n v) ≡ replicate n (boolean_entry t v)
booleans_repeated zero t v = refl
booleans_repeated (suc n) t v = ap (λ l. boolean_entry t v ∷ l) (booleans_repeated n t v)

repeated_within : (n : ℕ) (t v : Bool) → t && v ≡ t → zip2 (λ t v. t && v) (replicate n t) (replicate n v) ≡ replicate n t
repeated_within zero t v h = refl
repeated_within (suc n) t v h = let rest = repeated_within n t v h in cc

-- what the bitmaps of Booleans say of the rows
pub bitmaps_valid : (ts vs : List Bool) → length ts ≡ length vs → map is_some (zip2 boolean_entry ts vs) ≡ vs
bitmaps_valid [] [] h = refl
bitmaps_valid [] (v ∷ vs) h = cc
bitmaps_valid (t ∷ ts) [] h = cc
bitmaps_valid (t ∷ ts) (true ∷ vs) h = ap (λ l. true ∷ l) (bitmaps_valid ts vs (omega arith))
bitmaps_valid (t ∷ ts) (false ∷ vs) h = ap (λ l. false ∷ l) (bitmaps_valid ts vs (omega arith))

true_entry : (t v : Bool) → t && v ≡ t → is_true (boolean_entry t v) ≡ t
true_entry true true h = refl
true_entry false true h = refl
true_entry true false h = cc
true_entry false false h = refl

pub bitmaps_true : (ts vs : List Bool) → AreBitmaps ts vs → map is_true (zip2 boolean_entry ts vs) ≡ ts
bitmaps_true [] vs p = refl
bitmaps_true (t ∷ ts) [] p = absurd (omega (arith, p.same_length))
bitmaps_true (t ∷ ts) (v ∷ vs) p =
    let within = p.within in
    let here : t && v ≡ t = cc in
    let rest : zip2 (λ t v. t && v) ts vs ≡ ts = cc in
    let first = true_entry t v here in
    let more = bitmaps_true ts vs (record { same_length = omega (arith, p.same_length); within = rest }) in
    cc

false_entry : (t v : Bool) → t && v ≡ t → is_false (boolean_entry t v) ≡ cond t (not v) v
false_entry true true h = refl
false_entry false true h = refl
false_entry true false h = cc
false_entry false false h = refl

pub bitmaps_false : (ts vs : List Bool) → AreBitmaps ts vs → map is_false (zip2 boolean_entry ts vs) ≡ zip2 (λ x y. cond x (not y) y) ts vs
bitmaps_false [] vs p = refl
bitmaps_false (t ∷ ts) [] p = absurd (omega (arith, p.same_length))
bitmaps_false (t ∷ ts) (v ∷ vs) p =
    let within = p.within in
    let here : t && v ≡ t = cc in
    let rest : zip2 (λ t v. t && v) ts vs ≡ ts = cc in
    let first = false_entry t v here in
    let more = bitmaps_false ts vs (record { same_length = omega (arith, p.same_length); within = rest }) in
    cc

-- two bitmaps, and the rows that they stand for
pub record HaveRows (truth valid : List Bool) (rows : List Row) : Type 0 where
  pub inv : AreBitmaps truth valid
  pub is : zip2 boolean_entry truth valid ≡ rows

pub have_rows : (truth valid : List Bool) (xs : List Row) → AreBitmaps truth valid → zip2 boolean_entry truth valid ≡ xs → HaveRows truth valid xs
have_rows truth valid xs p e = record { inv = p; is = e }

pub same_booleans : {ts vs us ws : List Bool} {xs ys : List Row} → HaveRows ts vs xs → HaveRows us ws ys → length xs ≡ length ys → length ts ≡ length us
same_booleans {ts} {vs} {us} {ws} p q h = sym (length-booleans ts vs p.inv) ∙ ap length p.is ∙ h ∙ sym (ap length q.is) ∙ length-booleans us ws q.inv

trues : {ts vs : List Bool} {xs : List Row} → HaveRows ts vs xs → ts ≡ map is_true xs
trues {ts} {vs} p = sym (bitmaps_true ts vs p.inv) ∙ ap (map is_true) p.is

falses : {ts vs : List Bool} {xs : List Row} → HaveRows ts vs xs → zip2 (λ x y. cond x (not y) y) ts vs ≡ map is_false xs
falses {ts} {vs} p = sym (bitmaps_false ts vs p.inv) ∙ ap (map is_false) p.is

values : {ts vs : List Bool} {xs : List Row} → HaveRows ts vs xs → vs ≡ map is_some xs
values {ts} {vs} p = sym (bitmaps_valid ts vs p.inv.same_length) ∙ ap (map is_some) p.is

decided_entry : (t f : Bool) → boolean_entry t (t || f) ≡ decided_row t f
decided_entry true f = refl
decided_entry false true = refl
decided_entry false false = refl

-- true where ts is set, else false where fs is set
decided_entries : (ts fs : List Bool) → zip2 boolean_entry ts (zip2 (λ x y. x || y) ts fs) ≡ zip2 decided_row ts fs
decided_entries [] fs = refl
decided_entries (t ∷ ts) [] = refl
decided_entries (t ∷ ts) (f ∷ fs) = let here = decided_entry t f in let rest = decided_entries ts fs in cc

decided : (ts fs vs : List Bool) → length ts ≡ length fs → vs ≡ zip2 (λ x y. x || y) ts fs → HaveRows ts vs (zip2 decided_row ts fs)
decided ts fs vs h e = record {
  inv = record { same_length = sym (ap length e ∙ length-zip2 (λ x y. x || y) ts fs h); within = ap (zip2 (λ t v. t && v) ts) e ∙ or_within ts fs h };
  is = ap (zip2 boolean_entry ts) e ∙ decided_entries ts fs;
}

-- a Kleene operator: f of the two truths, g of the two falsities
pub kleene : (f g : Bool → Bool → Bool) {ts vs us ws : List Bool} {xs ys : List Row} (truth valid : List Bool) → HaveRows ts vs xs → HaveRows us ws ys → length xs ≡ length ys
    → truth ≡ zip2 f ts us → valid ≡ zip2 (λ x y. x || y) (zip2 f ts us) (zip2 g (zip2 (λ x y. cond x (not y) y) ts vs) (zip2 (λ x y. cond x (not y) y) us ws))
    → HaveRows truth valid (zip2 (λ x y. decided_row (f (is_true x) (is_true y)) (g (is_false x) (is_false y))) xs ys)
kleene f g {ts} {vs} {us} {ws} {xs} {ys} truth valid p q h e k =
    let true_side : truth ≡ zip2 f (map is_true xs) (map is_true ys) = e ∙ ap (λ l. zip2 f l us) (trues p) ∙ ap (zip2 f (map is_true xs)) (trues q) in
    let false_side : zip2 g (zip2 (λ x y. cond x (not y) y) ts vs) (zip2 (λ x y. cond x (not y) y) us ws) ≡ zip2 g (map is_false xs) (map is_false ys)
    = ap (λ l. zip2 g l (zip2 (λ x y. cond x (not y) y) us ws)) (falses p) ∙ ap (zip2 g (map is_false xs)) (falses q) in
    let same : length truth ≡ length (zip2 g (map is_false xs) (map is_false ys)) = ap length true_side ∙ length_both f is_true xs ys h ∙ sym (length_both g is_false xs ys h) in
    let either : valid ≡ zip2 (λ x y. x || y) truth (zip2 g (map is_false xs) (map is_false ys))
    = k ∙ ap (λ l. zip2 (λ x y. x || y) l (zip2 g (zip2 (λ x y. cond x (not y) y) ts vs) (zip2 (λ x y. cond x (not y) y) us ws))) (sym e) ∙ ap (zip2 (λ x y. x || y) truth) false_side in
    let made = decided truth (zip2 g (map is_false xs) (map is_false ys)) valid same either in
    record {
      inv = made.inv;
      is = made.is ∙ ap (λ l. zip2 decided_row l (zip2 g (map is_false xs) (map is_false ys))) true_side ∙ zip2_both decided_row f g is_true is_false xs ys;
    }

-- whether just one is true, where both are valid
pub exclusive : {ts vs us ws : List Bool} {xs ys : List Row} (truth valid : List Bool) → HaveRows ts vs xs → HaveRows us ws ys → length xs ≡ length ys
    → valid ≡ zip2 (λ x y. x && y) vs ws → truth ≡ zip2 (λ x y. x && y) (zip2 (λ x y. cond x (not y) y) ts us) valid → HaveRows truth valid (zip2 xor_row xs ys)
exclusive {ts} {vs} {us} {ws} {xs} {ys} truth valid p q h k e =
    let both : valid ≡ zip2 (λ x y. x && y) (map is_some xs) (map is_some ys) = k ∙ ap (λ l. zip2 (λ x y. x && y) l ws) (values p) ∙ ap (zip2 (λ x y. x && y) (map is_some xs)) (values q) in
    let flags : zip2 (λ x y. cond x (not y) y) ts us ≡ zip2 (λ x y. cond x (not y) y) (map is_true xs) (map is_true ys)
    = ap (λ l. zip2 (λ x y. cond x (not y) y) l us) (trues p) ∙ ap (zip2 (λ x y. cond x (not y) y) (map is_true xs)) (trues q) in
    let same : length (zip2 (λ x y. cond x (not y) y) ts us) ≡ length valid = ap length flags ∙ length_both (λ x y. cond x (not y) y) is_true xs ys h ∙ sym (ap length both ∙ length_both (λ x y. x && y) is_some xs ys h) in
    record {
      inv = record {
        same_length = ap length e ∙ length-zip2 (λ x y. x && y) (zip2 (λ x y. cond x (not y) y) ts us) valid same ∙ same;
        within = rw e (and_within (zip2 (λ x y. cond x (not y) y) ts us) valid);
      };
      is = ap (λ l. zip2 boolean_entry l valid) e ∙ masked (zip2 (λ x y. cond x (not y) y) ts us) valid ∙ ap (λ l. zip2 boolean_entry l valid) flags ∙ ap (zip2 boolean_entry (zip2 (λ x y. cond x (not y) y) (map is_true xs) (map is_true ys))) both
          ∙ zip2_both boolean_entry (λ x y. cond x (not y) y) (λ x y. x && y) is_true is_some xs ys;
    }

not_entry : (t v : Bool) → t && v ≡ t → boolean_entry (cond t (not v) v) v ≡ not_row (boolean_entry t v)
not_entry true true h = refl
not_entry false true h = refl
not_entry true false h = cc
not_entry false false h = refl

same_bit : (t : Bool) → t && t ≡ t
same_bit true = refl
same_bit false = refl

not_bit : (t v : Bool) → t && v ≡ t → cond t (not v) v && v ≡ cond t (not v) v
not_bit true true h = refl
not_bit false true h = refl
not_bit true false h = cc
not_bit false false h = refl

-- true and false exchanged
negated : (ts vs : List Bool) → AreBitmaps ts vs → HaveRows (zip2 (λ x y. cond x (not y) y) ts vs) vs (map not_row (zip2 boolean_entry ts vs))
negated [] [] p = record { inv = record { same_length = refl; within = refl }; is = refl }
negated [] (v ∷ vs) p = absurd (omega (arith, p.same_length))
negated (t ∷ ts) [] p = absurd (omega (arith, p.same_length))
negated (t ∷ ts) (v ∷ vs) p =
    let within = p.within in
    let here : t && v ≡ t = cc in
    let rest : zip2 (λ t v. t && v) ts vs ≡ ts = cc in
    let more = negated ts vs (record { same_length = omega (arith, p.same_length); within = rest }) in
    let bit = not_bit t v here in
    let entry = not_entry t v here in
    let bits = more.inv.within in
    let entries = more.is in
    record { inv = record { same_length = omega (arith, more.inv.same_length); within = cc }; is = cc }

pub opposite : {ts vs : List Bool} {xs : List Row} (truth valid : List Bool) → HaveRows ts vs xs → truth ≡ zip2 (λ x y. cond x (not y) y) ts vs → valid ≡ vs → HaveRows truth valid (map not_row xs)
opposite {ts} {vs} truth valid p e k =
    let made = negated ts vs p.inv in
    rw (e, k) (record { inv = made.inv; is = made.is ∙ ap (map not_row) p.is })

-- two functions that agree on null, true and false
pub rows_agree : (f g : Row → Row) → f None ≡ g None → f (Some (BooleanValue true)) ≡ g (Some (BooleanValue true)) → f (Some (BooleanValue false)) ≡ g (Some (BooleanValue false))
    → (xs : List Row) → Each1 (IsRowOf Boolean) xs → map f xs ≡ map g xs
rows_agree f g n t u [] h = refl
rows_agree f g n t u (None ∷ xs) h = let rest = rows_agree f g n t u xs h.1 in cc
rows_agree f g n t u (Some (BooleanValue true) ∷ xs) h = let rest = rows_agree f g n t u xs h.1 in cc
rows_agree f g n t u (Some (BooleanValue false) ∷ xs) h = let rest = rows_agree f g n t u xs h.1 in cc
rows_agree f g n t u (Some (StringValue s) ∷ xs) h = absurd h.0
rows_agree f g n t u (Some (IntegerValue z) ∷ xs) h = absurd h.0

-- a function that keeps null, true and false
pub rows_kept : (f : Row → Row) → None ≡ f None → Some (BooleanValue true) ≡ f (Some (BooleanValue true)) → Some (BooleanValue false) ≡ f (Some (BooleanValue false))
    → (xs : List Row) → Each1 (IsRowOf Boolean) xs → xs ≡ map f xs
rows_kept f n t u xs h = sym (map-id xs) ∙ rows_agree (λ x. x) f n t u xs h

-- a function that gives one row for each
pub rows_constant : (f : Row → Row) (row : Row) (len : ℕ) → row ≡ f None → row ≡ f (Some (BooleanValue true)) → row ≡ f (Some (BooleanValue false))
    → (xs : List Row) → Each1 (IsRowOf Boolean) xs → len ≡ length xs → replicate len row ≡ map f xs
rows_constant f row len n t u xs h e = ap (λ k. replicate k row) e ∙ sym (map-const row xs) ∙ rows_agree (λ _. row) f n t u xs h

non_null_bit : (t : Bool) → t && true ≡ t
non_null_bit true = refl
non_null_bit false = refl

value_entry : (value : Option Bool) → boolean_entry (unwrap_or value false) (is_some value) ≡ boolean_row value
value_entry (Some t) = refl
value_entry None = refl

value_within : (value : Option Bool) → unwrap_or value false && is_some value ≡ unwrap_or value false
value_within (Some t) = non_null_bit t
value_within None = refl

pub value_repeated : (n : ℕ) (value : Option Bool) (truth valid : List Bool) → truth ≡ replicate n (unwrap_or value false) → valid ≡ replicate n (is_some value) → HaveRows truth valid (replicate n (boolean_row value))
value_repeated n value truth valid e k = rw (e, k) (record {
  inv = record {
    same_length = length-replicate n (unwrap_or value false) ∙ sym (length-replicate n (is_some value));
    within = repeated_within n (unwrap_or value false) (is_some value) (value_within value);
  };
  is = booleans_repeated n (unwrap_or value false) (is_some value) ∙ ap (replicate n) (value_entry value);
})

false_entry_or_null : (t v : Bool) → t && v ≡ t → boolean_entry false (cond t (not v) v) ≡ and_row (boolean_entry t v) None
false_entry_or_null true true h = refl
false_entry_or_null false true h = refl
false_entry_or_null true false h = cc
false_entry_or_null false false h = refl

true_entry_or_null : (t v : Bool) → t && v ≡ t → boolean_entry t t ≡ or_row (boolean_entry t v) None
true_entry_or_null true true h = refl
true_entry_or_null false true h = refl
true_entry_or_null true false h = cc
true_entry_or_null false false h = refl

-- false where a row is false, else null
false_or_null : (ts vs : List Bool) → AreBitmaps ts vs → HaveRows (replicate (length ts) false) (zip2 (λ x y. cond x (not y) y) ts vs) (map (λ x. and_row x None) (zip2 boolean_entry ts vs))
false_or_null [] [] p = record { inv = record { same_length = refl; within = refl }; is = refl }
false_or_null [] (v ∷ vs) p = absurd (omega (arith, p.same_length))
false_or_null (t ∷ ts) [] p = absurd (omega (arith, p.same_length))
false_or_null (t ∷ ts) (v ∷ vs) p =
    let within = p.within in
    let here : t && v ≡ t = cc in
    let rest : zip2 (λ t v. t && v) ts vs ≡ ts = cc in
    let more = false_or_null ts vs (record { same_length = omega (arith, p.same_length); within = rest }) in
    let entry = false_entry_or_null t v here in
    let bits = more.inv.within in
    let entries = more.is in
    record { inv = record { same_length = omega (arith, more.inv.same_length); within = ap (λ l. false ∷ l) bits }; is = cc }

-- true where a row is true, else null
true_or_null : (ts vs : List Bool) → AreBitmaps ts vs → HaveRows ts ts (map (λ x. or_row x None) (zip2 boolean_entry ts vs))
true_or_null [] [] p = record { inv = record { same_length = refl; within = refl }; is = refl }
true_or_null [] (v ∷ vs) p = absurd (omega (arith, p.same_length))
true_or_null (t ∷ ts) [] p = absurd (omega (arith, p.same_length))
true_or_null (t ∷ ts) (v ∷ vs) p =
    let within = p.within in
    let here : t && v ≡ t = cc in
    let rest : zip2 (λ t v. t && v) ts vs ≡ ts = cc in
    let more = true_or_null ts vs (record { same_length = omega (arith, p.same_length); within = rest }) in
    let entry = true_entry_or_null t v here in
    let bits = more.inv.within in
    let entries = more.is in
    let bit = same_bit t in
    record { inv = record { same_length = refl; within = cc }; is = cc }

pub with_null_and : {ts vs : List Bool} {xs : List Row} (n : ℕ) (truth valid : List Bool) → HaveRows ts vs xs → n ≡ length ts → truth ≡ replicate n false → valid ≡ zip2 (λ x y. cond x (not y) y) ts vs
    → HaveRows truth valid (map (λ x. and_row x None) xs)
with_null_and {ts} {vs} n truth valid p h e k =
    let made = false_or_null ts vs p.inv in
    let all : truth ≡ replicate (length ts) false = e ∙ ap (λ m. replicate m false) h in
    rw (all, k) (record { inv = made.inv; is = made.is ∙ ap (map (λ x. and_row x None)) p.is })

pub with_null_or : {ts vs : List Bool} {xs : List Row} (truth valid : List Bool) → HaveRows ts vs xs → truth ≡ ts → valid ≡ ts → HaveRows truth valid (map (λ x. or_row x None) xs)
with_null_or {ts} {vs} truth valid p e k =
    let made = true_or_null ts vs p.inv in
    rw (e, k) (record { inv = made.inv; is = made.is ∙ ap (map (λ x. or_row x None)) p.is })

-- the operators do not depend on the order of their rows
or_swap : (a b : Bool) → (a || b) ≡ (b || a)
or_swap true true = refl
or_swap true false = refl
or_swap false true = refl
or_swap false false = refl

and_swap : (a b : Bool) → (a && b) ≡ (b && a)
and_swap true true = refl
and_swap true false = refl
and_swap false true = refl
and_swap false false = refl

xor_swap : (a b : Bool) → cond a (not b) b ≡ cond b (not a) a
xor_swap true true = refl
xor_swap true false = refl
xor_swap false true = refl
xor_swap false false = refl

logic_swap : (op : Operator) (x y : Row) → IsLogic op → boolean_logic_row op x y ≡ boolean_logic_row op y x
logic_swap And x y h = ap (λ t. decided_row t (is_false x || is_false y)) (and_swap (is_true x) (is_true y)) ∙ ap (decided_row (is_true y && is_true x)) (or_swap (is_false x) (is_false y))
logic_swap Or x y h = ap (λ t. decided_row t (is_false x && is_false y)) (or_swap (is_true x) (is_true y)) ∙ ap (decided_row (is_true y || is_true x)) (and_swap (is_false x) (is_false y))
logic_swap Xor x y h = ap (λ t. boolean_entry t (is_some x && is_some y)) (xor_swap (is_true x) (is_true y)) ∙ ap (boolean_entry (cond (is_true y) (not (is_true x)) (is_true x))) (and_swap (is_some x) (is_some y))
logic_swap _ x y h = absurd h

pub rows_swapped : (op : Operator) → IsLogic op → (x : Row) (xs : List Row) → map (λ y. boolean_logic_row op y x) xs ≡ map (boolean_logic_row op x) xs
rows_swapped op h x xs = map_same (λ y. boolean_logic_row op y x) (boolean_logic_row op x) xs (λ y. logic_swap op y x h)

-- bitmaps of which all is valid
pub non_null_entries : (ts : List Bool) → zip2 boolean_entry ts (replicate (length ts) true) ≡ map non_null ts
non_null_entries [] = refl
non_null_entries (t ∷ ts) = ap (λ l. non_null t ∷ l) (non_null_entries ts)

pub non_null_within : (ts : List Bool) → zip2 (λ t v. t && v) ts (replicate (length ts) true) ≡ ts
non_null_within [] = refl
non_null_within (t ∷ ts) = let here = non_null_bit t in let rest = non_null_within ts in cc

-- bitmaps of which all is valid, and whose truth is not that of the flags
pub complement_entries : (flags truth valid : List Bool) → valid ≡ replicate (length flags) true → truth ≡ zip2 (λ x y. cond x (not y) y) valid flags → HaveRows truth valid (map non_null (map not flags))
complement_entries flags truth valid k e =
    let is : truth ≡ map not flags = e ∙ ap (λ l. zip2 (λ x y. cond x (not y) y) l flags) k ∙ zip2_splat_left (λ x y. cond x (not y) y) true (length flags) flags refl in
    let all : valid ≡ replicate (length truth) true = k ∙ ap (λ n. replicate n true) (sym (ap length is ∙ length-map flags not)) in
    record {
      inv = record { same_length = sym (ap length all ∙ length-replicate (length truth) true); within = ap (zip2 (λ t v. t && v) truth) all ∙ non_null_within truth };
      is = ap (zip2 boolean_entry truth) all ∙ non_null_entries truth ∙ ap (map non_null) is;
    }

-- row i, by its two bits
pub boolean_entry_at : (ts vs : List Bool) (i : ℕ) (t v : Bool) → length ts ≡ length vs → i < length vs → t ≡ get_or ts i false → v ≡ get_or vs i false
    → boolean_entry t v ≡ get_or (zip2 boolean_entry ts vs) i None
boolean_entry_at [] [] i t v h l e f = absurd (omega arith)
boolean_entry_at [] (y ∷ vs) i t v h l e f = cc
boolean_entry_at (x ∷ ts) [] i t v h l e f = cc
boolean_entry_at (x ∷ ts) (y ∷ vs) zero t v h l e f = ap (λ a. boolean_entry a v) e ∙ ap (boolean_entry x) f
boolean_entry_at (x ∷ ts) (y ∷ vs) (suc i) t v h l e f = boolean_entry_at ts vs i t v (omega arith) (omega arith) e f

-- rows of optional Booleans
pub option_entries : (values : List (Option Bool)) → zip2 boolean_entry (map (λ v. unwrap_or v false) values) (map is_some values) ≡ map boolean_row values
option_entries [] = refl
option_entries (Some t ∷ values) = ap (λ l. Some (BooleanValue t) ∷ l) (option_entries values)
option_entries (None ∷ values) = ap (λ l. None ∷ l) (option_entries values)
