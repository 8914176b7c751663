-- Columns whose lengths broadcast, and what a list of trees means.
use Rattle.std.proofs.Common.{◌≡◌, ◌⊎◌, inl, inr, ◌+◌, ◌<◌, ◌≤◌, ℕ, zero, suc, List, [], ◌∷◌, ◌++◌, map, length, append_assoc, get_or, take, drop, drop-cons, Option, Some, None, Result, Ok, Err, refl, sym, ◌∙◌, ap, subst, add-one, arith}
use Rattle.std.specs.Prelude.{option_and_then, option_map, slice_get, IsSome, IfOk, IfErr}
use Rattle.std.proofs.lemmas.Option.{same_Some}
use Rattle.px_base.specs.declared.error.PlanError.{PlanError}
use Rattle.px_base.specs.declared.list.List.{List as Entries}
use Rattle.px_base.specs.declared.error.PlanError.TheVariants.{OutOfMemory, ShapeMismatch}
use Rattle.px_semantics.specs.Frames.{heights}
use Rattle.px_semantics.specs.Rows.{TypedRows, Contents, broadcast_length, broadcast_lengths}
use Rattle.px_semantics.proofs.Joins.{broadcast_same, broadcast_left, broadcast_right, broadcast_none}
use Rattle.px_semantics.proofs.LawLemmas.{by_eq, broadcast_commutes, broadcast_associates}
use Rattle.px_expr.specs.declared.context.Context.{Context}
use Rattle.px_expr.specs.declared.context.Context.TheVariants.{Select}
use Rattle.px_expr.specs.Kernel.{Kernel}
use Rattle.px_expr.specs.Tree.{Tree, Trees, none, more, trees}
use Rattle.px_meaning.specs.Faults.{HasFault, SomeHasFault, of_first, of_rest, HasUnevenInputs, lengths}
use Rattle.px_meaning.specs.Mean.{all_of, rows, named, mean, as_answer, answer_name, lined_up, mean_list}
use Rattle.px_meaning.specs.Names.{name}
use Rattle.px_meaning.specs.Schema.{Fits}
use Rattle.px_meaning.proofs.Nothing.{fault-nothing}
use Rattle.px_meaning.proofs.Typing.{HasType-Has}
use Rattle.px_expr.specs.Plan.{Catalog}
use Rattle.px_arena.specs.declared.node.AExpr.{AExpr}
use Rattle.px_arena.specs.declared.node.Node.{Node}
use Rattle.px_arena.specs.Denotes.{Denotes, DenoteAll, IsIn, first, later}
use Rattle.px_arena.proofs.Places.{denote_all_one}
use Rattle.px_rules.specs.Plan.{AreChecked, IsCheckedAt, AreCheckedAt, places}
use Rattle.px_eval.specs.declared.answers.Answer.{Answer}
use Rattle.px_eval.specs.Table.{rows_at, values_of}
use Rattle.px_eval.specs.Answers.{column_of, FitsLength}
use Rattle.px_eval.specs.Evaluated.{DenoteTrees, HasListFault}
use Rattle.px_eval.specs.Fills.{HoldsRoots, RootHasFault}

-- lengths one after the other, from the left
broadcast_one : (m : ℕ) → broadcast_length m 1 ≡ Some m
broadcast_one m = broadcast_commutes m 1 ∙ broadcast_left 1 m refl

joined_cons : (m : ℕ) (ns : List ℕ) → broadcast_lengths (m ∷ ns) ≡ option_and_then (broadcast_length m) (broadcast_lengths ns)
joined_cons m [] = sym (broadcast_one m)
joined_cons m (n ∷ ns) = refl

pub joined_start : (ns : List ℕ) → option_and_then (broadcast_length 1) (broadcast_lengths ns) ≡ broadcast_lengths ns
joined_start ns = go (broadcast_lengths ns)
  where
    go : (o : Option ℕ) → option_and_then (broadcast_length 1) o ≡ o
    go None = refl
    go (Some n) = broadcast_left 1 n refl

pub joined_step :
    (a m : ℕ) (ns : List ℕ) → option_and_then (broadcast_length a) (broadcast_lengths (m ∷ ns)) ≡ option_and_then (λ k. option_and_then (broadcast_length k) (broadcast_lengths ns)) (broadcast_length a m)
joined_step a m ns = ap (option_and_then (broadcast_length a)) (joined_cons m ns) ∙ go (broadcast_lengths ns)
  where
    nothing : (o : Option ℕ) → option_and_then (λ (k : ℕ). option_and_then (broadcast_length k) None) o ≡ None
    nothing None = refl
    nothing (Some k) = refl

    go : (o : Option ℕ) → option_and_then (broadcast_length a) (option_and_then (broadcast_length m) o) ≡ option_and_then (λ k. option_and_then (broadcast_length k) o) (broadcast_length a m)
    go None = sym (nothing (broadcast_length a m))
    go (Some n) = sym (broadcast_associates a m n)

-- one more answer joins the length so far
pub joined_more :
    (answers : List Answer) (i : ℕ) (a : Answer) (j k : ℕ) (total : Option ℕ) → i < length answers → a ≡ get_or answers i a → broadcast_length j (length (values_of a.rows).rows) ≡ Some k →
    option_and_then (broadcast_length j) (broadcast_lengths (heights (map column_of (drop i answers)))) ≡ total → option_and_then (broadcast_length k) (broadcast_lengths (heights (map column_of (drop (i + 1) answers)))) ≡ total
joined_more answers i a j k total h is joins e =
    let next : drop i answers ≡ a ∷ drop (i + 1) answers = drop-cons answers i a h ∙ (ap (λ (z : Answer). z ∷ drop (suc i) answers) (sym is) ∙ ap (λ (n : ℕ). a ∷ drop n answers) (sym (add-one i))) in
    let ns = heights (map column_of (drop (i + 1) answers)) in
    let s = joined_step j (length (values_of a.rows).rows) ns in
    let t : option_and_then (broadcast_length j) (broadcast_lengths (heights (map column_of (a ∷ drop (i + 1) answers)))) ≡ total = subst (λ (z : List Answer). option_and_then (broadcast_length j) (broadcast_lengths (heights (map column_of z))) ≡ total) next e in
    ap (option_and_then (λ m. option_and_then (broadcast_length m) (broadcast_lengths ns))) (sym joins) ∙ (sym s ∙ t)

-- a length that does not join
pub joined_not :
    (answers : List Answer) (i : ℕ) (a : Answer) (j : ℕ) (total : Option ℕ) → i < length answers → a ≡ get_or answers i a → broadcast_length j (length (values_of a.rows).rows) ≡ None →
    option_and_then (broadcast_length j) (broadcast_lengths (heights (map column_of (drop i answers)))) ≡ total → total ≡ None
joined_not answers i a j total h is joins e =
    let next : drop i answers ≡ a ∷ drop (i + 1) answers = drop-cons answers i a h ∙ (ap (λ (z : Answer). z ∷ drop (suc i) answers) (sym is) ∙ ap (λ (n : ℕ). a ∷ drop n answers) (sym (add-one i))) in
    let ns = heights (map column_of (drop (i + 1) answers)) in
    let s = joined_step j (length (values_of a.rows).rows) ns in
    let t : option_and_then (broadcast_length j) (broadcast_lengths (heights (map column_of (a ∷ drop (i + 1) answers)))) ≡ total = subst (λ (z : List Answer). option_and_then (broadcast_length j) (broadcast_lengths (heights (map column_of z))) ≡ total) next e in
    sym t ∙ (s ∙ ap (option_and_then (λ m. option_and_then (broadcast_length m) (broadcast_lengths ns))) joins)

-- all answers broadcast
pub joined_end :
    (answers : List Answer) (i j : ℕ) (total : Option ℕ) → length answers ≤ i → option_and_then (broadcast_length j) (broadcast_lengths (heights (map column_of (drop i answers)))) ≡ total → Some j ≡ total
joined_end answers i j total h e =
    let t : option_and_then (broadcast_length j) (broadcast_lengths []) ≡ total = subst (λ (z : List Answer). option_and_then (broadcast_length j) (broadcast_lengths (heights (map column_of z))) ≡ total) (drop_all answers i h) e in
    sym (broadcast_one j) ∙ t
  where
    drop_all : (xs : List Answer) (i : ℕ) → length xs ≤ i → drop i xs ≡ []
    drop_all [] zero h = refl
    drop_all [] (suc i) h = refl
    drop_all (x ∷ xs) zero h = absurd (omega arith)
    drop_all (x ∷ xs) (suc i) h = drop_all xs i (omega arith)

-- the columns fit the length to which all join
pub data AllFit (n : ℕ) : List Contents → Type 0 where
  no_more : AllFit n []
  one_more : {c : Contents} {cs : List Contents} → FitsLength n c → AllFit n cs → AllFit n (c ∷ cs)

-- two lengths that broadcast to n are each n or one
joined_parts : (m k n : ℕ) → broadcast_length m k ≡ Some n → ((m ≡ 1) ⊎ (m ≡ n)) × ((k ≡ 1) ⊎ (k ≡ n))
joined_parts m k n e = elim (by_eq m k) [
  | inl s ↦ let f : Some m ≡ Some n = sym (broadcast_same m k s) ∙ e in let g : m ≡ n = same_Some m n f in (inr g, inr (sym s ∙ g))
  | inr d ↦ elim (by_eq m 1) [
    | inl s ↦ let f : Some k ≡ Some n = sym (broadcast_left m k s) ∙ e in (inl s, inr (same_Some k n f))
    | inr p ↦ elim (by_eq k 1) [
      | inl s ↦ let f : Some m ≡ Some n = sym (broadcast_right m k d p s) ∙ e in (inr (same_Some m n f), inl s)
      | inr q ↦ let f : None ≡ Some n = sym (broadcast_none m k d p q) ∙ e in cc
    ]
  ]
]

fit_again : (k n : ℕ) (cs : List Contents) → (k ≡ 1) ⊎ (k ≡ n) → AllFit k cs → AllFit n cs
fit_again k n [] h all = no_more
fit_again k n (c ∷ cs) h (one_more f all) = one_more (turn f h) (fit_again k n cs h all)
  where
    turn : (length c.values.rows ≡ 1) ⊎ (length c.values.rows ≡ k) → (k ≡ 1) ⊎ (k ≡ n) → FitsLength n c
    turn (inl e) h = inl e
    turn (inr e) (inl s) = inl (e ∙ s)
    turn (inr e) (inr s) = inr (e ∙ s)

pub all_fit : (n : ℕ) (cs : List Contents) → broadcast_lengths (heights cs) ≡ Some n → AllFit n cs
all_fit n [] e = no_more
all_fit n (c ∷ cs) e = go (λ k s. all_fit k cs s) (broadcast_lengths (heights cs)) refl (sym (joined_cons (length c.values.rows) (heights cs)) ∙ e)
  where
    go : ((k : ℕ) → broadcast_lengths (heights cs) ≡ Some k → AllFit k cs) → (o : Option ℕ) → broadcast_lengths (heights cs) ≡ o → option_and_then (broadcast_length (length c.values.rows)) o ≡ Some n → AllFit n (c ∷ cs)
    go rest None s f = cc
    go rest (Some k) s f =
        let (p, q) = joined_parts (length c.values.rows) k n f in
        one_more p (fit_again k n cs q (rest k s))

pub first_fits : (n : ℕ) (c : Contents) (cs : List Contents) → AllFit n (c ∷ cs) → FitsLength n c
first_fits n c cs (one_more f all) = f

pub rest_fit : (n : ℕ) (c : Contents) (cs : List Contents) → AllFit n (c ∷ cs) → AllFit n cs
rest_fit n c cs (one_more f all) = all

-- one more column was broadcast
pub lined_more :
    (n : ℕ) (whole done pushed : List Contents) (left : List Answer) (a : Answer) (rest : List Answer) (c : Contents) → left ≡ a ∷ rest → c ≡ as_answer Select n (column_of a) → pushed ≡ done ++ c ∷ [] →
    whole ≡ done ++ map (as_answer Select n) (map column_of left) → whole ≡ pushed ++ map (as_answer Select n) (map column_of rest)
lined_more n whole done pushed left a rest c steps one push so =
    let tail = map (as_answer Select n) (map column_of rest) in
    so
    ∙ (ap (λ (z : List Answer). done ++ map (as_answer Select n) (map column_of z)) steps
    ∙ (ap (λ (z : Contents). done ++ (z ∷ tail)) (sym one)
    ∙ (sym (append_assoc done (c ∷ []) tail) ∙ ap (λ (z : List Contents). z ++ tail) (sym push))))

-- one of the places, and its tree
pub record Nth (items : List AExpr) (ts : List Tree) (i m : ℕ) : Type 0 where
  pub tree : Tree
  pub denotes : Denotes items m tree
  pub at : slice_get ts i ≡ Some tree

pub nth_denotes : (items : List AExpr) (ns : List ℕ) (ts : List Tree) (i m : ℕ) → DenoteAll items ns (trees ts) → slice_get ns i ≡ Some m → Nth items ts i m
nth_denotes items [] ts i m d e = cc
nth_denotes items (n ∷ ns) [] i m d e = absurd d
nth_denotes items (n ∷ ns) (t ∷ ts) zero m (d, ds) e = record { tree = t; denotes = subst (λ (z : ℕ). Denotes items z t) (same_Some n m e) d; at = refl }
nth_denotes items (n ∷ ns) (t ∷ ts) (suc i) m (d, ds) e = let r = nth_denotes items ns ts i m ds e in record { tree = r.tree; denotes = r.denotes; at = r.at }

take_suc : {A : Type 0} (xs : List A) (i : ℕ) (x : A) → slice_get xs i ≡ Some x → take (suc i) xs ≡ take i xs ++ x ∷ []
take_suc [] i x e = cc
take_suc (y ∷ ys) zero x e = ap (λ z. z ∷ []) (same_Some y x e)
take_suc (y ∷ ys) (suc i) x e = ap (λ zs. y ∷ zs) (take_suc ys i x e)

pub take_one : {A : Type 0} (xs : List A) (i : ℕ) (x : A) → slice_get xs i ≡ Some x → take (i + 1) xs ≡ take i xs ++ x ∷ []
take_one xs i x e = subst (λ (k : ℕ). take k xs ≡ take i xs ++ x ∷ []) (sym (add-one i)) (take_suc xs i x e)

pub map-snoc : {A B : Type 0} (f : A → B) (xs : List A) (x : A) → map f (xs ++ x ∷ []) ≡ map f xs ++ f x ∷ []
map-snoc f [] x = refl
map-snoc f (y ∷ ys) x = ap (λ zs. f y ∷ zs) (map-snoc f ys x)

pub take_whole : {A : Type 0} (xs : List A) (i : ℕ) → length xs ≤ i → take i xs ≡ xs
take_whole [] zero h = refl
take_whole [] (suc i) h = refl
take_whole (x ∷ xs) zero h = absurd (omega arith)
take_whole (x ∷ xs) (suc i) h = ap (λ zs. x ∷ zs) (take_whole xs i (omega arith))

pub as_many : (items : List AExpr) (ns : List ℕ) (ts : List Tree) → DenoteAll items ns (trees ts) → length ts ≡ length ns
as_many items [] [] d = refl
as_many items [] (t ∷ ts) d = absurd d
as_many items (n ∷ ns) [] d = absurd d
as_many items (n ∷ ns) (t ∷ ts) (d, ds) = ap suc (as_many items ns ts ds)

-- one more element, of which f says what g says of its place
pub listed_more :
    {A B C : Type 0} (f : A → C) (g : B → C) (xs ys : List A) (x : A) (bs : List B) (i : ℕ) (b : B) → ys ≡ xs ++ x ∷ [] → map f xs ≡ map g (take i bs) → f x ≡ g b → slice_get bs i ≡ Some b →
    map f ys ≡ map g (take (i + 1) bs)
listed_more {A} {B} {C} f g xs ys x bs i b pushed so one at =
    ap (map f) pushed
    ∙ (map-snoc f xs x
    ∙ (ap (λ (zs : List C). zs ++ f x ∷ []) so
    ∙ (ap (λ (z : C). map g (take i bs) ++ z ∷ []) one
    ∙ (sym (map-snoc g (take i bs) b) ∙ ap (map g) (sym (take_one bs i b at))))))

-- a list of trees as a list
pub list_of : Trees → List Tree
list_of none = []
list_of (more u us) = u ∷ list_of us

pub list_of-is : (us : Trees) → trees (list_of us) ≡ us
unfolding list_of
list_of-is none = refl
list_of-is (more u us) = ap (more u) (list_of-is us)

-- the trees that the places denote
pub denoted_trees : (c : Catalog) (items : List AExpr) (ns : List Node) → AreCheckedAt c items (places ns) → (ts : List Tree) × DenoteTrees items ns ts
denoted_trees c items ns (us, ds, ok) = (list_of us, subst (λ (z : Trees). DenoteAll items (places ns) z) (sym (list_of-is us)) ds)

pub trees_checked : (c : Catalog) (items : List AExpr) (ns : List ℕ) (ts : List Tree) → AreCheckedAt c items ns → DenoteAll items ns (trees ts) → AreChecked c (trees ts)
trees_checked c items ns ts (us, ds, ok) d = subst (λ (z : Trees). AreChecked c z) (denote_all_one items ns us (trees ts) ds d) ok

pub checked_at : (c : Catalog) (items : List AExpr) (ns : List ℕ) → AreCheckedAt c items ns → (n : ℕ) → IsIn n ns → IsCheckedAt c items n
checked_at c items ns (us, ds, ok) n i = go ns us ds ok i
  where
    go : (ns : List ℕ) (us : Trees) → DenoteAll items ns us → AreChecked c us → IsIn n ns → IsCheckedAt c items n
    go [] us ds ok i = elim i [ ]
    go (m ∷ ns) none ds ok i = absurd ds
    go (_ ∷ ns) (more u us) (d, ds) (ok, oks) first = (u, d, ok)
    go (m ∷ ns) (more u us) (d, ds) (ok, oks) (later i) = go ns us ds oks i

module _ (kernels : List Kernel) (frame : List Contents) (items : List AExpr) where
  -- the table holds what the trees mean
  pub held_rows : (ns : List ℕ) (ts : List Tree) (table : List (Option TypedRows)) → HoldsRoots kernels frame items ns table → DenoteAll items ns (trees ts) → map (rows_at table) ns ≡ map (rows kernels frame) ts
  held_rows [] [] table h d = refl
  held_rows [] (t ∷ ts) table h d = absurd d
  held_rows (n ∷ ns) [] table h d = absurd d
  held_rows (n ∷ ns) (t ∷ ts) table h (d, ds) =
      let (v, e, m) = h n first in
      let same : rows_at table n ≡ rows kernels frame t = e ∙ sym (m t d) in
      let rest = held_rows ns ts table (λ p i. h p (later i)) ds in
      cc

  root_in_list : (e : PlanError) (ns : List ℕ) (ts : List Tree) → RootHasFault kernels frame items ns e → DenoteAll items ns (trees ts) → SomeHasFault kernels frame (trees ts) e
  root_in_list e ns ts (n, w, f) d = go ns ts w d
    where
      go : (ns : List ℕ) (ts : List Tree) → IsIn n ns → DenoteAll items ns (trees ts) → SomeHasFault kernels frame (trees ts) e
      go [] ts w d = elim w [ ]
      go (m ∷ ns) [] w d = absurd d
      go (_ ∷ ns) (t ∷ ts) first (d, ds) = of_first (f t d)
      go (m ∷ ns) (t ∷ ts) (later w) (d, ds) = of_rest (go ns ts w ds)

  -- the error of a root, as one of the list
  pub list_error : (e : PlanError) (ns : List Node) (ts : List Tree) → (e ≡ OutOfMemory) ⊎ RootHasFault kernels frame items (places ns) e → DenoteTrees items ns ts → (e ≡ OutOfMemory) ⊎ HasListFault kernels frame ts e
  list_error e ns ts (inl h) d = inl h
  list_error e ns ts (inr h) d = inr (inl (root_in_list e (places ns) ts h d))

-- a column as the context shows it, of its own length
abbrev pub as_answered : Context → Contents → Contents
as_answered context c = named (answer_name context c.name) c.values

answer_heights : (context : Context) (cs : List Contents) → heights (map (as_answered context) cs) ≡ heights cs
answer_heights context [] = refl
answer_heights context (c ∷ cs) = ap (λ ns. length c.values.rows ∷ ns) (answer_heights context cs)

answer_again : (context : Context) (n : ℕ) (cs : List Contents) → map (as_answer context n) cs ≡ map (as_answer Select n) (map (as_answered context) cs)
answer_again context n [] = refl
answer_again context n (c ∷ cs) = ap (λ ds. as_answer context n c ∷ ds) (answer_again context n cs)

lined_answer : (context : Context) (cs : List Contents) → lined_up context cs ≡ lined_up Select (map (as_answered context) cs)
lined_answer context cs = go (broadcast_lengths (heights cs)) ∙ ap (option_map (λ n. map (as_answer Select n) (map (as_answered context) cs))) (ap broadcast_lengths (sym (answer_heights context cs)))
  where
    go : (o : Option ℕ) → option_map (λ n. map (as_answer context n) cs) o ≡ option_map (λ n. map (as_answer Select n) (map (as_answered context) cs)) o
    go None = refl
    go (Some n) = ap Some (answer_again context n cs)

all_lined : (context : Context) (o : Option (List Contents)) → option_and_then (lined_up context) o ≡ option_and_then (lined_up Select) (option_map (map (as_answered context)) o)
all_lined context None = refl
all_lined context (Some cs) = lined_answer context cs

module _ (kernels : List Kernel) (frame : List Contents) where
  -- answers of these names and rows are what the trees mean
  pub answers_mean :
      (context : Context) (answers : List Answer) (ts : List Tree) → map (λ (a : Answer). Some (values_of a.rows)) answers ≡ map (rows kernels frame) ts →
      map (λ (a : Answer). a.name) answers ≡ map (λ t. answer_name context (name t)) ts →
      option_map (map (as_answered context)) (all_of (map (mean kernels frame) ts)) ≡ Some (map column_of answers)
  answers_mean context [] [] e f = refl
  answers_mean context [] (t ∷ ts) e f = cc
  answers_mean context (a ∷ answers) [] e f = cc
  answers_mean context (a ∷ answers) (t ∷ ts) e f =
      let row : Some (values_of a.rows) ≡ rows kernels frame t = cc in
      let called : a.name ≡ answer_name context (name t) = cc in
      let rows_left : map (λ (a : Answer). Some (values_of a.rows)) answers ≡ map (rows kernels frame) ts = cc in
      let names_left : map (λ (a : Answer). a.name) answers ≡ map (λ t. answer_name context (name t)) ts = cc in
      let rest = answers_mean context answers ts rows_left names_left in
      ap (λ (o : Option TypedRows). option_map (map (as_answered context)) (option_and_then (λ (c : Contents). option_map (λ cs. c ∷ cs) (all_of (map (mean kernels frame) ts))) (option_map (named (name t)) o))) (sym row)
      ∙ (more_answers context (named (name t) (values_of a.rows)) (all_of (map (mean kernels frame) ts))
      ∙ (ap (option_map (λ cs. as_answered context (named (name t) (values_of a.rows)) ∷ cs)) rest
      ∙ ap (λ (m : List ℕ). Some (named m (values_of a.rows) ∷ map column_of answers)) (sym called)))
    where
      more_answers :
          (context : Context) (c : Contents) (o : Option (List Contents)) →
          option_map (map (as_answered context)) (option_map (λ cs. c ∷ cs) o) ≡ option_map (λ cs. as_answered context c ∷ cs) (option_map (map (as_answered context)) o)
      more_answers context c None = refl
      more_answers context c (Some cs) = refl

  -- and what the list means
  pub listed_mean :
      (context : Context) (answers : List Answer) (ts : List Tree) → map (λ (a : Answer). Some (values_of a.rows)) answers ≡ map (rows kernels frame) ts →
      map (λ (a : Answer). a.name) answers ≡ map (λ t. answer_name context (name t)) ts → mean_list kernels frame context ts ≡ lined_up Select (map column_of answers)
  listed_mean context answers ts e f = all_lined context (all_of (map (mean kernels frame) ts)) ∙ ap (option_and_then (lined_up Select)) (answers_mean context answers ts e f)

  all_rows : (answers : List Answer) → all_of (map (λ (a : Answer). Some (values_of a.rows)) answers) ≡ Some (map (λ (a : Answer). values_of a.rows) answers)
  all_rows [] = refl
  all_rows (a ∷ answers) = ap (option_map (λ vs. values_of a.rows ∷ vs)) (all_rows answers)

  same_heights : (answers : List Answer) → heights (map column_of answers) ≡ lengths (map (λ (a : Answer). values_of a.rows) answers)
  same_heights [] = refl
  same_heights (a ∷ answers) = ap (λ ns. length (values_of a.rows).rows ∷ ns) (same_heights answers)

  no_length : (cs : List Contents) → lined_up Select cs ≡ None → broadcast_lengths (heights cs) ≡ None
  no_length cs e = go (broadcast_lengths (heights cs)) refl
    where
      go : (o : Option ℕ) → broadcast_lengths (heights cs) ≡ o → broadcast_lengths (heights cs) ≡ None
      go None s = s
      go (Some n) s = let f : lined_up Select cs ≡ Some _ = ap (option_map _) s in cc

  -- answers that do not line up are columns whose lengths do not broadcast
  pub uneven_answers :
      (answers : List Answer) (ts : List Tree) → map (λ (a : Answer). Some (values_of a.rows)) answers ≡ map (rows kernels frame) ts → lined_up Select (map column_of answers) ≡ None →
      HasUnevenInputs (map (rows kernels frame) ts)
  uneven_answers answers ts e n = (
    map (λ (a : Answer). values_of a.rows) answers,
    sym (ap all_of e) ∙ all_rows answers,
    sym (ap broadcast_lengths (same_heights answers)) ∙ no_length (map column_of answers) n,
  )

  -- where a tree has a fault the list means nothing
  pub faulty_list : (c : Catalog) → c.kernels ≡ kernels → Fits frame c.schema → (e : PlanError) (ts : List Tree) → AreChecked c (trees ts) → SomeHasFault kernels frame (trees ts) e → all_of (map (mean kernels frame) ts) ≡ None
  faulty_list c same fits e [] ok h = elim h [ ]
  faulty_list c same fits e (t ∷ ts) ((k, ok), oks) (of_first h) =
      let h' : HasFault c.kernels frame t e = subst (λ (z : List Kernel). HasFault z frame t e) (sym same) h in
      let nothing : rows c.kernels frame t ≡ None = fault-nothing c frame fits t k (HasType-Has c t k ok) e h' in
      let nothing' : rows kernels frame t ≡ None = subst (λ (z : List Kernel). rows z frame t ≡ None) same nothing in
      ap (λ (o : Option TypedRows). option_and_then (λ (d : Contents). option_map (λ ds. d ∷ ds) (all_of (map (mean kernels frame) ts))) (option_map (named (name t)) o)) nothing'
  faulty_list c same fits e (t ∷ ts) ((k, ok), oks) (of_rest h) =
      ap (λ (o : Option (List Contents)). option_and_then (λ (d : Contents). option_map (λ ds. d ∷ ds) o) (mean kernels frame t)) (faulty_list c same fits e ts oks h) ∙ nothing (mean kernels frame t)
    where
      nothing : (o : Option Contents) → option_and_then (λ (d : Contents). option_map (λ (ds : List Contents). d ∷ ds) None) o ≡ None
      nothing None = refl
      nothing (Some d) = refl

-- an error where the list means columns
pub complete_error :
    (kernels : List Kernel) (frame : List Contents) (c : Catalog) (items : List AExpr) (ns : List Node) (context : Context) (ts : List Tree) (e : PlanError) → c.kernels ≡ kernels → Fits frame c.schema → AreCheckedAt c items (places ns) →
    DenoteTrees items ns ts → IsSome (mean_list kernels frame context ts) → (e ≡ OutOfMemory) ⊎ RootHasFault kernels frame items (places ns) e → e ≡ OutOfMemory
complete_error kernels frame c items ns context ts e same fits checked d some (inl h) = h
complete_error kernels frame c items ns context ts e same fits checked d some (inr h) =
    let nothing = faulty_list kernels frame c same fits e ts (trees_checked c items (places ns) ts checked d) (root_in_list kernels frame items e (places ns) ts h d) in
    let lost : mean_list kernels frame context ts ≡ None = ap (option_and_then (lined_up context)) nothing in
    absurd (differ (mean_list kernels frame context ts) lost some)
  where
    differ : (o : Option (List Contents)) → o ≡ None → IsSome o → ⊥
    differ None a b = cc
    differ (Some v) a b = cc

pub uneven_complete : (o : Option (List Contents)) (e : PlanError) → (e ≡ OutOfMemory) ⊎ ((e ≡ ShapeMismatch) × (o ≡ None)) → IsSome o → e ≡ OutOfMemory
uneven_complete o e (inl h) some = h
uneven_complete None e (inr (h, n)) some = cc
uneven_complete (Some v) e (inr (h, n)) some = cc

pub uneven_error :
    (kernels : List Kernel) (frame : List Contents) (answers : List Answer) (ts : List Tree) (e : PlanError) → map (λ (a : Answer). Some (values_of a.rows)) answers ≡ map (rows kernels frame) ts →
    (e ≡ OutOfMemory) ⊎ ((e ≡ ShapeMismatch) × (lined_up Select (map column_of answers) ≡ None)) → (e ≡ OutOfMemory) ⊎ HasListFault kernels frame ts e
uneven_error kernels frame answers ts e same (inl h) = inl h
uneven_error kernels frame answers ts e same (inr (h, n)) = inr (inr (h, uneven_answers kernels frame answers ts same n))

module _ (kernels : List Kernel) (frame : List Contents) (items : List AExpr) (context : Context) (ns : List Node) (table : List (Option TypedRows)) (answers : List Answer) where
  -- the answers are the rows that the table holds of the roots, under their names
  pub record AreAnswers : Type 0 where
    pub holds : HoldsRoots kernels frame items (places ns) table
    pub rows : map (λ (a : Answer). Some (values_of a.rows)) answers ≡ map (rows_at table) (places ns)
    pub names : (ts : List Tree) → DenoteTrees items ns ts → map (λ (a : Answer). a.name) answers ≡ map (λ t. answer_name context (name t)) ts

  answer_rows : (ts : List Tree) → AreAnswers → DenoteTrees items ns ts → map (λ (a : Answer). Some (values_of a.rows)) answers ≡ map (rows kernels frame) ts
  answer_rows ts a d = a.rows ∙ held_rows kernels frame items (places ns) ts table a.holds d

  pub evaluated_ok :
      (r : Result (Entries Contents) PlanError) → AreAnswers → IfOk r (λ l. Some l.entries ≡ lined_up Select (map column_of answers)) →
      IfOk r (λ l. (ts : List Tree) → DenoteTrees items ns ts → mean_list kernels frame context ts ≡ Some l.entries)
  evaluated_ok (Ok l) a lined = λ ts d. listed_mean kernels frame context answers ts (answer_rows ts a d) (a.names ts d) ∙ sym lined
  evaluated_ok (Err e) a lined = tt

  pub evaluated_err :
      (r : Result (Entries Contents) PlanError) → AreAnswers → IfErr r (λ e. (e ≡ OutOfMemory) ⊎ ((e ≡ ShapeMismatch) × (lined_up Select (map column_of answers) ≡ None))) →
      IfErr r (λ e. (ts : List Tree) → DenoteTrees items ns ts → (e ≡ OutOfMemory) ⊎ HasListFault kernels frame ts e)
  evaluated_err (Ok l) a h = tt
  evaluated_err (Err e) a h = λ ts d. uneven_error kernels frame answers ts e (answer_rows ts a d) h

  pub evaluated_complete :
      (r : Result (Entries Contents) PlanError) → AreAnswers → IfErr r (λ e. (e ≡ OutOfMemory) ⊎ ((e ≡ ShapeMismatch) × (lined_up Select (map column_of answers) ≡ None))) →
      (ts : List Tree) → DenoteTrees items ns ts → IsSome (mean_list kernels frame context ts) → IfErr r (λ e. e ≡ OutOfMemory)
  evaluated_complete (Ok l) a h ts d some = tt
  evaluated_complete (Err e) a h ts d some =
      let same = listed_mean kernels frame context answers ts (answer_rows ts a d) (a.names ts d) in
      uneven_complete (lined_up Select (map column_of answers)) e h (subst (λ (o : Option (List Contents)). IsSome o) same some)
