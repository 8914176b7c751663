-- Folds of lists of rows, each of which is broadcast to the common length, place by place.
use Rattle.std.proofs.Common.{◌≡◌, ◌∙◌, ◌⊎◌, inl, inr, ◌<◌, ◌+◌, ◌++◌, ℕ, List, [], ◌∷◌, map, length, get_or, zero, suc, take, drop, Option, Some, None, option_map, option_and_then, sym, ap, refl, subst, arith, Bor}
use Rattle.std.specs.Prelude.{Result, Ok, Err, IfOk, IfErr}
use Rattle.std.specs.List.{fold, range_with_len}
use Rattle.std.specs.Simd.Lanes.{zip2, Each1}
use Rattle.std.proofs.lemmas.List.{map-append, take_more, drop_more}
use Rattle.std.proofs.lemmas.List.Sums.{fold_more}
use Rattle.std.proofs.lemmas.List.FromFn.{fill_by_all, length-map-range_with_len, get_or-map-range_with_len}
use Rattle.std.proofs.lemmas.Simd.{length-zip2}
use Rattle.px_base.specs.Answer.{GivesOr}
use Rattle.px_base.specs.declared.error.PlanError.{PlanError}
use Rattle.px_base.specs.declared.error.PlanError.TheVariants.{OutOfMemory, ShapeMismatch}
use Rattle.px_types.specs.declared.value_type.ValueType.{ValueType}
use Rattle.px_semantics.specs.Horizontals.{rows_across, elementwise_all, horizontal_rows}
use Rattle.px_semantics.specs.Rows.{Row, TypedRows, IsRowOf, broadcast_length, broadcast_lengths, stretch}
use Rattle.px_semantics.proofs.Joins.{broadcast_left}
use Rattle.px_semantics.proofs.Joining.{broadcasts_to, stretch_long, of_type}
use Rattle.px_semantics.proofs.LawLemmas.{broadcast_associates}
use Rattle.px_arrays.proofs.Entries.{Each1-push}
use Rattle.px_arrays.proofs.Bitmaps.{maps}
use Rattle.px_column.specs.Buffers.{values_of}
use Rattle.px_column.specs.ColumnOf.{type_of, rows_of}
use Rattle.px_column.specs.declared.buffer.Buffer.{Buffer}
use Rattle.px_horizontals.specs.Folds.{fold_lists, fold_row, FitLength}
use Rattle.px_horizontals.specs.Inputs.{values_of_buffers, rows_of_buffers, first_type, HaveType, AreTyped, TypesAre}

-- ---- the common length, from the left

-- a length that broadcasts to one that broadcasts to another
onward : (k m n : ℕ) → (k ≡ 1) ⊎ (k ≡ m) → (m ≡ 1) ⊎ (m ≡ n) → (k ≡ 1) ⊎ (k ≡ n)
onward k m n (inl e) q = inl e
onward k m n (inr e) (inl f) = inl (e ∙ f)
onward k m n (inr e) (inr f) = inr (e ∙ f)

-- two lengths first, and then the others
pub lengths_left : (a b : ℕ) (ns : List ℕ) → broadcast_lengths (a ∷ (b ∷ ns)) ≡ option_and_then (λ k. broadcast_lengths (k ∷ ns)) (broadcast_length a b)
lengths_left a b [] = by (broadcast_length a b)
  where
    by : (o : Option ℕ) → o ≡ option_and_then (λ k. Some k) o
    by (Some k) = refl
    by None = refl
lengths_left a b (c ∷ ns) = by (broadcast_lengths (c ∷ ns))
  where
    none : (o : Option ℕ) → None ≡ option_and_then (λ k. option_and_then (λ l. broadcast_length k l) None) o
    none (Some k) = refl
    none None = refl

    by : (o : Option ℕ) → option_and_then (λ k. broadcast_length a k) (option_and_then (λ k. broadcast_length b k) o) ≡ option_and_then (λ k. option_and_then (λ l. broadcast_length k l) o) (broadcast_length a b)
    by (Some l) = sym (broadcast_associates a b l)
    by None = none (broadcast_length a b)

weaker_each : (l n : ℕ) (lists : List (List Row)) → (l ≡ 1) ⊎ (l ≡ n) → FitLength l lists → FitLength n lists
weaker_each l n [] q p = tt
weaker_each l n (rows ∷ lists) q p = (onward (length rows) l n p.0 q, weaker_each l n lists q p.1)

fit_from : (rows : List Row) (lists : List (List Row)) (n : ℕ) → broadcast_lengths (length rows ∷ map length lists) ≡ Some n → FitLength n (rows ∷ lists)
fit_from rows [] n h = (inr cc, tt)
fit_from rows (next ∷ lists) n h = by (λ l e. fit_from next lists l e) (broadcast_lengths (length next ∷ map length lists)) refl h
  where
    by : ((l : ℕ) → broadcast_lengths (length next ∷ map length lists) ≡ Some l → FitLength l (next ∷ lists))
        → (o : Option ℕ) → broadcast_lengths (length next ∷ map length lists) ≡ o → option_and_then (λ l. broadcast_length (length rows) l) o ≡ Some n → FitLength n (rows ∷ (next ∷ lists))
    by rest (Some l) e f = let to = broadcasts_to (length rows) l n f in (to.0, weaker_each l n (next ∷ lists) to.1 (rest l e))
    by rest None e f = cc

-- lists that broadcast have the common length, or one
pub fit_length : (n : ℕ) (lists : List (List Row)) → broadcast_lengths (map length lists) ≡ Some n → FitLength n lists
fit_length n [] h = tt
fit_length n (rows ∷ lists) h = fit_from rows lists n h

-- ---- place by place

pub map_range_same : {X : Type 0} (f g : ℕ → X) (d : X) (n : ℕ) → ((i : ℕ) → i < n → f i ≡ g i) → map f (range_with_len 0 n) ≡ map g (range_with_len 0 n)
map_range_same f g d n same =
    fill_by_all g (map f (range_with_len 0 n)) n d (length-map-range_with_len f 0 n)
    (λ k h. get_or-map-range_with_len f 0 n k k d h (omega arith) ∙ same k h)

pub at_zip2 : (f : Row → Row → Row) (xs ys : List Row) (i : ℕ) → length xs ≡ length ys → i < length xs → get_or (zip2 f xs ys) i None ≡ f (get_or xs i None) (get_or ys i None)
at_zip2 f [] ys i h l = absurd (omega arith)
at_zip2 f (x ∷ xs) [] i h l = cc
at_zip2 f (x ∷ xs) (y ∷ ys) zero h l = refl
at_zip2 f (x ∷ xs) (y ∷ ys) (suc i) h l = at_zip2 f xs ys i (omega arith) (omega arith)

-- as many rows as so far
pub step_long : (f : Row → Row → Row) (n : ℕ) (total rows : List Row) → length total ≡ n → (length rows ≡ 1) ⊎ (length rows ≡ n) → length (zip2 f total (stretch n rows)) ≡ n
step_long f n total rows e q = length-zip2 f total (stretch n rows) (e ∙ sym (stretch_long rows n q)) ∙ e

-- what the fold makes at a place
abbrev folded_at : (Row → Row → Row) → ℕ → List Row → List (List Row) → ℕ → Row
folded_at f n start lists i = fold f (get_or start i None) (rows_across (map (stretch n) lists) i)

-- a fold of lists is a fold at each place
pub fold_across : (f : Row → Row → Row) (n : ℕ) (start : List Row) (lists : List (List Row)) → length start ≡ n → FitLength n lists → fold_lists f n start lists ≡ map (folded_at f n start lists) (range_with_len 0 n)
fold_across f n start [] e q = fill_by_all (λ i. get_or start i None) start n None e (λ k h. refl)
fold_across f n start (rows ∷ lists) e q =
    let long = stretch_long rows n q.0 in
    fold_across f n (zip2 f start (stretch n rows)) lists (step_long f n start rows e q.0) q.1
    ∙ map_range_same (folded_at f n (zip2 f start (stretch n rows)) lists) (folded_at f n start (rows ∷ lists)) None n
    (λ i l. ap (λ row. fold f row (rows_across (map (stretch n) lists) i)) (at_zip2 f start (stretch n rows) i (e ∙ sym long) (omega arith)))

-- the fold from the first list on
pub first_folded : (f : Row → Row → Row) (n : ℕ) (rows : List Row) (lists : List (List Row)) → broadcast_lengths (map length (rows ∷ lists)) ≡ Some n
    → Some (fold_lists f n (stretch n rows) lists) ≡ elementwise_all (fold_row f) (rows ∷ lists)
first_folded f n rows lists h =
    let fit = fit_length n (rows ∷ lists) h in
    ap Some (fold_across f n (stretch n rows) lists (stretch_long rows n fit.0) fit.1)
    ∙ sym (ap (option_map (λ n. map (λ i. fold_row f (rows_across (map (stretch n) (rows ∷ lists)) i)) (range_with_len 0 n))) h)

-- ---- buffers

pub buffer_rows : (buffers : List (Bor Buffer)) → map (λ (c : TypedRows). c.rows) (values_of_buffers buffers) ≡ rows_of_buffers buffers
buffer_rows buffers = maps (λ (b : Bor Buffer). values_of b.now) (λ (c : TypedRows). c.rows) buffers

-- ---- the loops over buffers

-- the length 1 goes with any
pub from_one : (ns : List ℕ) → broadcast_lengths (1 ∷ ns) ≡ broadcast_lengths ns
from_one [] = refl
from_one (n ∷ ns) = by (broadcast_lengths (n ∷ ns))
  where
    by : (o : Option ℕ) → option_and_then (λ k. broadcast_length 1 k) o ≡ o
    by (Some k) = broadcast_left 1 k refl
    by None = refl

-- one length more
pub joined_next : (len m i : ℕ) (o : Option ℕ) (buffers : List (Bor Buffer)) (b : Bor Buffer) → i < length buffers → b ≡ get_or buffers i b → o ≡ broadcast_length len m → m ≡ length (rows_of b.now)
    → broadcast_lengths (len ∷ map length (rows_of_buffers (drop i buffers))) ≡ option_and_then (λ k. broadcast_lengths (k ∷ map length (rows_of_buffers (drop (i + 1) buffers)))) o
joined_next len m i o buffers b l is e r =
    let left : Option ℕ → Option ℕ = λ p. option_and_then (λ k. broadcast_lengths (k ∷ map length (rows_of_buffers (drop (i + 1) buffers)))) p in
    ap (λ bs. broadcast_lengths (len ∷ map length (rows_of_buffers bs))) (drop_more buffers i b l)
    ∙ lengths_left len (length (rows_of (get_or buffers i b).now)) (map length (rows_of_buffers (drop (i + 1) buffers)))
    ∙ ap (λ (d : Bor Buffer). left (broadcast_length len (length (rows_of d.now)))) (sym is)
    ∙ ap (λ k. left (broadcast_length len k)) (sym r)
    ∙ ap left (sym e)

-- one buffer of typed rows more
pub typed_more : (buffers : List (Bor Buffer)) (i : ℕ) (b : Bor Buffer) → i < length buffers → b ≡ get_or buffers i b → AreTyped (values_of_buffers (take i buffers)) → Each1 (IsRowOf (type_of b.now)) (rows_of b.now)
    → AreTyped (values_of_buffers (take (i + 1) buffers))
typed_more buffers i b l is h p =
    let e : values_of_buffers (take (i + 1) buffers) ≡ values_of_buffers (take i buffers) ++ values_of (get_or buffers i b).now ∷ [] =
    ap values_of_buffers (take_more buffers i b l) ∙ map-append (λ (d : Bor Buffer). values_of d.now) (take i buffers) (get_or buffers i b ∷ []) in
    let q : Each1 (IsRowOf (type_of (get_or buffers i b).now)) (rows_of (get_or buffers i b).now) = subst (λ (d : Bor Buffer). Each1 (IsRowOf (type_of d.now)) (rows_of d.now)) is p in
    subst (λ (l : List TypedRows). AreTyped l) (sym e) (Each1-push (λ (c : TypedRows). Each1 (IsRowOf c.value_type) c.rows) (values_of_buffers (take i buffers)) (values_of (get_or buffers i b).now) h q)

fits_get : (n : ℕ) (buffers : List (Bor Buffer)) (i : ℕ) (b : Bor Buffer) → i < length buffers → FitLength n (rows_of_buffers buffers)
    → (length (rows_of (get_or buffers i b).now) ≡ 1) ⊎ (length (rows_of (get_or buffers i b).now) ≡ n)
fits_get n [] i b l h = absurd (omega arith)
fits_get n (x ∷ xs) zero b l h = h.0
fits_get n (x ∷ xs) (suc i) b l h = fits_get n xs i b (omega arith) h.1

pub fits_at : (n : ℕ) (buffers : List (Bor Buffer)) (i : ℕ) (b : Bor Buffer) → i < length buffers → b ≡ get_or buffers i b → FitLength n (rows_of_buffers buffers)
    → (length (rows_of b.now) ≡ 1) ⊎ (length (rows_of b.now) ≡ n)
fits_at n buffers i b l is h = subst (λ (d : Bor Buffer). (length (rows_of d.now) ≡ 1) ⊎ (length (rows_of d.now) ≡ n)) (sym is) (fits_get n buffers i b l h)

-- a fold of what is made of a list
fold_mapped : {A B C : Type 0} (g : A → B) (f : C → B → C) (a : C) (xs : List A) → fold f a (map g xs) ≡ fold (λ t x. f t (g x)) a xs
fold_mapped g f a [] = refl
fold_mapped g f a (x ∷ xs) = fold_mapped g f (f a (g x)) xs

-- one buffer more
pub fold_next : (f : Row → Row → Row) (n : ℕ) (start : List Row) (buffers : List (Bor Buffer)) (i : ℕ) (b : Bor Buffer) (total : List Row) → i < length buffers → b ≡ get_or buffers i b
    → total ≡ fold_lists f n start (rows_of_buffers (take i buffers)) → zip2 f total (stretch n (rows_of b.now)) ≡ fold_lists f n start (rows_of_buffers (take (i + 1) buffers))
fold_next f n start buffers i b total l is e =
    let step : List Row → Bor Buffer → List Row = λ t d. zip2 f t (stretch n (rows_of d.now)) in
    let rows : Bor Buffer → List Row = λ d. rows_of d.now in
    let joined : List Row → List Row → List Row = λ t r. zip2 f t (stretch n r) in
    ap (λ t. step t b) (e ∙ fold_mapped rows joined start (take i buffers))
    ∙ ap (step (fold step start (take i buffers))) is
    ∙ sym (fold_more step start buffers i b l)
    ∙ sym (fold_mapped rows joined start (take (i + 1) buffers))

-- the same, where the type and the length are those at the start
pub fold_step : (f : ValueType → Row → Row → Row) (start total next : Buffer) (buffers : List (Bor Buffer)) (i : ℕ) (b : Bor Buffer) → i < length buffers → b ≡ get_or buffers i b
    → type_of total ≡ type_of start → length (rows_of total) ≡ length (rows_of start)
    → rows_of total ≡ fold_lists (f (type_of start)) (length (rows_of start)) (rows_of start) (rows_of_buffers (take i buffers))
    → rows_of next ≡ zip2 (f (type_of total)) (rows_of total) (stretch (length (rows_of total)) (rows_of b.now))
    → rows_of next ≡ fold_lists (f (type_of start)) (length (rows_of start)) (rows_of start) (rows_of_buffers (take (i + 1) buffers))
fold_step f start total next buffers i b l is t n e q =
    q
    ∙ ap (λ k. zip2 (f k) (rows_of total) (stretch (length (rows_of total)) (rows_of b.now))) t
    ∙ ap (λ m. zip2 (f (type_of start)) (rows_of total) (stretch m (rows_of b.now))) n
    ∙ fold_next (f (type_of start)) (length (rows_of start)) (rows_of start) buffers i b (rows_of total) l is e

-- ---- the whole fold

-- no rows where the lengths do not broadcast
pub none_horizontal : (k : ValueType) (F : List Row → Row) (buffers : List (Bor Buffer)) → None ≡ broadcast_lengths (map length (rows_of_buffers buffers)) → horizontal_rows k F (values_of_buffers buffers) ≡ None
none_horizontal k F buffers h =
    ap (λ lists. option_map (of_type k) (elementwise_all F lists)) (buffer_rows buffers)
    ∙ sym (ap (λ o. option_map (of_type k) (option_map (λ n. map (λ i. F (rows_across (map (stretch n) (rows_of_buffers buffers)) i)) (range_with_len 0 n)) o)) h)

pub joined_fit : (first : Bor Buffer) (rest inputs : List (Bor Buffer)) (len : ℕ) → inputs ≡ first ∷ rest → Some len ≡ broadcast_lengths (map length (rows_of_buffers inputs)) → FitLength len (rows_of_buffers (first ∷ rest))
joined_fit first rest inputs len e h = fit_length len (rows_of_buffers (first ∷ rest)) (sym (h ∙ ap (λ bs. broadcast_lengths (map length (rows_of_buffers bs))) e))

takes_each : (Q : ValueType → ValueType → Type 0) (k s : ValueType) (rest : List (Bor Buffer)) → Q s k → Each1 (λ (c : TypedRows). c.value_type ≡ k) (values_of_buffers rest) → TypesAre (Q s) rest
takes_each Q k s [] q h = tt
takes_each Q k s (b ∷ bs) q h = (subst (λ (t : ValueType). Q s t) (sym h.0) q, takes_each Q k s bs q h.1)

-- the buffers after the first are taken
pub takes_rest : (Q : ValueType → ValueType → Type 0) (first : Bor Buffer) (rest inputs : List (Bor Buffer)) (s : ValueType) → inputs ≡ first ∷ rest → s ≡ type_of first.now
    → Q (first_type (values_of_buffers inputs)) (first_type (values_of_buffers inputs)) → HaveType (first_type (values_of_buffers inputs)) (values_of_buffers inputs) → TypesAre (Q s) rest
takes_rest Q first rest inputs s e t q h =
    let k = type_of first.now in
    let same = subst (λ (bs : List (Bor Buffer)). HaveType (first_type (values_of_buffers bs)) (values_of_buffers bs)) e h in
    let taken = subst (λ (bs : List (Bor Buffer)). Q (first_type (values_of_buffers bs)) (first_type (values_of_buffers bs))) e q in
    takes_each Q k s rest (subst (λ (j : ValueType). Q j k) (sym t) taken) same.1

folded_first : (f : ValueType → Row → Row → Row) (first : Bor Buffer) (rest : List (Bor Buffer)) (start : Buffer) (len : ℕ) (r : Result Buffer PlanError)
    → type_of start ≡ type_of first.now → rows_of start ≡ stretch len (rows_of first.now) → Some len ≡ broadcast_lengths (map length (rows_of_buffers (first ∷ rest)))
    → IfOk r (λ b. type_of b ≡ type_of start)
    → IfOk r (λ b. rows_of b ≡ fold_lists (f (type_of start)) (length (rows_of start)) (rows_of start) (rows_of_buffers rest))
    → IfErr r (λ e. e ≡ OutOfMemory)
    → GivesOr ShapeMismatch values_of r (horizontal_rows (type_of first.now) (fold_row (f (type_of first.now))) (values_of_buffers (first ∷ rest)))
folded_first f first rest start len (Err e) ht hr hl t q h = inl h
folded_first f first rest start len (Ok b) ht hr hl t q h =
    let k = type_of first.now in
    let lists = rows_of_buffers rest in
    let fit = fit_length len (rows_of_buffers (first ∷ rest)) (sym hl) in
    let rows : rows_of b ≡ fold_lists (f k) len (stretch len (rows_of first.now)) lists =
    q
    ∙ ap (λ j. fold_lists (f j) (length (rows_of start)) (rows_of start) lists) ht
    ∙ ap (λ s. fold_lists (f k) (length s) s lists) hr
    ∙ ap (λ n. fold_lists (f k) n (stretch len (rows_of first.now)) lists) (stretch_long (rows_of first.now) len fit.0) in
    ap (λ j. Some (of_type j (rows_of b))) (t ∙ ht)
    ∙ ap (λ s. Some (of_type k s)) rows
    ∙ ap (option_map (of_type k)) (first_folded (f k) len (rows_of first.now) lists (sym hl))
    ∙ sym (ap (λ l. option_map (of_type k) (elementwise_all (fold_row (f k)) l)) (buffer_rows (first ∷ rest)))

-- the answer of a fold from the first buffer on
pub folded_answer : (f : ValueType → Row → Row → Row) (first : Bor Buffer) (rest inputs : List (Bor Buffer)) (start : Buffer) (len : ℕ) (r : Result Buffer PlanError)
    → inputs ≡ first ∷ rest → type_of start ≡ type_of first.now → rows_of start ≡ stretch len (rows_of first.now) → Some len ≡ broadcast_lengths (map length (rows_of_buffers inputs))
    → IfOk r (λ b. type_of b ≡ type_of start)
    → IfOk r (λ b. rows_of b ≡ fold_lists (f (type_of start)) (length (rows_of start)) (rows_of start) (rows_of_buffers rest))
    → IfErr r (λ e. e ≡ OutOfMemory)
    → GivesOr ShapeMismatch values_of r (horizontal_rows (first_type (values_of_buffers inputs)) (fold_row (f (first_type (values_of_buffers inputs)))) (values_of_buffers inputs))
folded_answer f first rest inputs start len r e ht hr hl t q h =
    subst (λ (bs : List (Bor Buffer)). GivesOr ShapeMismatch values_of r (horizontal_rows (first_type (values_of_buffers bs)) (fold_row (f (first_type (values_of_buffers bs)))) (values_of_buffers bs))) (sym e)
    (folded_first f first rest start len r ht hr (hl ∙ ap (λ bs. broadcast_lengths (map length (rows_of_buffers bs))) e) t q h)
