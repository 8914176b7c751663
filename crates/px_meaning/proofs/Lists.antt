-- Lists of trees: what the check of a list gives, and what lists mean whose trees reach those in their places.
use Rattle.std.proofs.Common.{◌≡◌, ℕ, suc, List, [], ◌∷◌, map, length, Option, Some, None, Result, Ok, true, refl, sym, ap, subst, ◌∙◌}
use Rattle.std.proofs.lemmas.List.Elements.{All-nil, All-cons}
use Rattle.std.specs.List.{All}
use Rattle.std.specs.Prelude.{option_map, option_and_then}
use Rattle.px_base.specs.declared.error.PlanError.{PlanError}
use Rattle.px_base.specs.declared.error.PlanError.TheVariants.{InvalidOperation}
use Rattle.px_semantics.specs.Rows.{is_boolean, broadcast_lengths}
use Rattle.px_semantics.specs.Rows.{TypedRows, Contents, stretch}
use Rattle.px_types.specs.Schemas.{first_repeated, unless_repeated}
use Rattle.px_types.specs.declared.value_type.ValueType.{ValueType}
use Rattle.px_types.specs.declared.value_type.ValueType.TheVariants as value_type
use Rattle.px_expr.specs.declared.context.Context.{Context}
use Rattle.px_expr.specs.declared.context.Context.TheVariants.{Select, Filter}
use Rattle.px_expr.specs.Kernel.{Kernel}
use Rattle.px_expr.specs.Plan.{Catalog}
use Rattle.px_expr.specs.Tree.{Tree, Trees, none, more, trees}
use Rattle.px_meaning.specs.Check.{Typed, check, then_, all_results, or_fault, as_asked, with_names, check_list, HasType}
use Rattle.px_meaning.specs.Laws.{KeepsMeaning}
use Rattle.px_meaning.specs.Faults.{HasFault}
use Rattle.px_meaning.specs.Mean.{all_of, rows, named, mean, as_answer, lined_up, mean_list}
use Rattle.px_meaning.specs.Names.{name}
use Rattle.px_meaning.specs.Rewriting.{Pairwise, AllReach}
use Rattle.px_meaning.specs.Schema.{Fits}
use Rattle.px_meaning.specs.Signatures.{given}
use Rattle.px_meaning.proofs.Answers.{from_option, then_-parts, given-parts}
use Rattle.px_meaning.proofs.Gives.{check-gives}
use Rattle.px_meaning.proofs.Steps.{Reaches-keeps}

-- f answers each of a list so
abbrev pub Answered : {A B : Type 0} → (B → Result A PlanError) → List B → List A → Type 0
Answered f [] [] = Unit {0}
Answered f (b ∷ bs) (a ∷ as') = (f b ≡ Ok a) × Answered f bs as'
Answered f [] (a ∷ as') = ⊥
Answered f (b ∷ bs) [] = ⊥

all_results-each : {A B : Type 0} (f : B → Result A PlanError) (bs : List B) (as' : List A) → all_results (map f bs) ≡ Ok as' → Answered f bs as'
all_results-each f [] [] e = tt
all_results-each f [] (a ∷ as') e = cc
all_results-each {A} f (b ∷ bs) as' e =
    let (x, g, h) = then_-parts (f b) (λ a. then_ (all_results (map f bs)) (λ (xs : List A). Ok (a ∷ xs))) as' e in
    let (xs, i, j) = then_-parts (all_results (map f bs)) (λ xs. Ok (x ∷ xs)) as' h in
    split as' x xs g (all_results-each f bs xs i) cc
  where
    split : (as' : List A) (x : A) (xs : List A) → f b ≡ Ok x → Answered f bs xs → x ∷ xs ≡ as' → Answered f (b ∷ bs) as'
    split [] x xs g h same = cc
    split (a ∷ as') x xs g h same =
        let first : x ≡ a = cc in
        let rest : xs ≡ as' = cc in
        subst (λ (z : List A). Answered f (b ∷ bs) z) same (g, h)

answered-by : {A B : Type 0} (f g : B → Result A PlanError) → ((b : B) (a : A) → f b ≡ Ok a → g b ≡ Ok a) → (bs : List B) (as' : List A) → Answered f bs as' → Answered g bs as'
answered-by f g so [] [] h = tt
answered-by f g so [] (a ∷ as') h = absurd h
answered-by f g so (b ∷ bs) [] h = absurd h
answered-by f g so (b ∷ bs) (a ∷ as') h = (so b a h.0, answered-by f g so bs as' h.1)

answered-map : {A B : Type 0} (f : B → Result A PlanError) (bs : List B) (as' : List A) → Answered f bs as' → map f bs ≡ map Ok as'
answered-map f [] [] h = refl
answered-map f [] (a ∷ as') h = absurd h
answered-map f (b ∷ bs) [] h = absurd h
answered-map f (b ∷ bs) (a ∷ as') h = let first = h.0 in let rest = answered-map f bs as' h.1 in cc

answered-count : {A B : Type 0} (f : B → Result A PlanError) (bs : List B) (as' : List A) → Answered f bs as' → length as' ≡ length bs
answered-count f [] [] h = refl
answered-count f [] (a ∷ as') h = absurd h
answered-count f (b ∷ bs) [] h = absurd h
answered-count f (b ∷ bs) (a ∷ as') h = ap suc (answered-count f bs as' h.1)

answered-all : {A B : Type 0} (f : B → Result A PlanError) (P : A → Type 0) → ((b : B) (a : A) → f b ≡ Ok a → P a) → (bs : List B) (as' : List A) → Answered f bs as' → All P as'
answered-all f P so [] [] h = All-nil P
answered-all f P so [] (a ∷ as') h = absurd h
answered-all f P so (b ∷ bs) [] h = absurd h
answered-all f P so (b ∷ bs) (a ∷ as') h = All-cons P a as' (so b a h.0) (answered-all f P so bs as' h.1)

is-boolean : (k : ValueType) → is_boolean k ≡ true → k ≡ value_type.Boolean
is-boolean value_type.Boolean e = refl
is-boolean _ e = cc

asked-same : (context : Context) (v w : Typed) → as_asked context v ≡ Ok w → v ≡ w
asked-same Select v w e = cc
asked-same Filter v w e = (given-parts (is_boolean v.value_type) v w (from_option InvalidOperation (given (is_boolean v.value_type) v) w e)).1

asked-mask : (v w : Typed) → as_asked Filter v ≡ Ok w → w.value_type ≡ value_type.Boolean
asked-mask v w e =
    let (test, same) = given-parts (is_boolean v.value_type) v w (from_option InvalidOperation (given (is_boolean v.value_type) v) w e) in
    ap (λ (x : Typed). x.value_type) (sym same) ∙ is-boolean v.value_type test

unless-parts : {A : Type 0} (a b : A) (o : Option (List ℕ)) → unless_repeated a o ≡ Ok b → (a ≡ b) × (o ≡ None)
unless-parts a b None e = (cc, refl)
unless-parts a b (Some n) e = cc

named-same : (context : Context) (ws vs : List Typed) → with_names context ws ≡ Ok vs → ws ≡ vs
named-same Select ws vs e = (unless-parts ws vs (first_repeated (map (λ (t : Typed). name t.tree) ws)) e).0
named-same Filter ws vs e = cc

module _ (c : Catalog) where
  -- what the check gives of a tree, as the context asks for it
  abbrev asked : Context → Tree → Result Typed PlanError
  asked context t = then_ (check c t) (as_asked context)

  asked-check : (context : Context) (t : Tree) (v : Typed) → asked context t ≡ Ok v → check c t ≡ Ok v
  asked-check context t v e =
      let (w, f, g) = then_-parts (check c t) (as_asked context) v e in
      f ∙ ap Ok (asked-same context w v g)

  pub check_list-each : (context : Context) (ts : List Tree) (vs : List Typed) → check_list c context ts ≡ Ok vs → Answered (asked context) ts vs
  check_list-each context ts vs e =
      let (ws, f, g) = then_-parts (all_results (map (asked context) ts)) (with_names context) vs e in
      subst (λ (z : List Typed). Answered (asked context) ts z) (named-same context ws vs g) (all_results-each (asked context) ts ws f)

  pub check_list-map : (context : Context) (ts : List Tree) (vs : List Typed) → check_list c context ts ≡ Ok vs → map (check c) ts ≡ map Ok vs
  check_list-map context ts vs e = answered-map (check c) ts vs (answered-by (asked context) (check c) (asked-check context) ts vs (check_list-each context ts vs e))

  pub check_list-count : (context : Context) (ts : List Tree) (vs : List Typed) → check_list c context ts ≡ Ok vs → length vs ≡ length ts
  check_list-count context ts vs e = answered-count (asked context) ts vs (check_list-each context ts vs e)

  pub check_list-checked : (context : Context) (ts : List Tree) (vs : List Typed) → check_list c context ts ≡ Ok vs → All (λ (v : Typed). HasType c v.tree v.value_type) vs
  check_list-checked context ts vs e =
      answered-all (asked context) (λ (v : Typed). HasType c v.tree v.value_type) (λ t v h. check-gives c t v (asked-check context t v h)) ts vs (check_list-each context ts vs e)

  pub check_list-masks : (ts : List Tree) (vs : List Typed) → check_list c Filter ts ≡ Ok vs → All (λ (v : Typed). v.value_type ≡ value_type.Boolean) vs
  check_list-masks ts vs e =
      answered-all (asked Filter) (λ (v : Typed). v.value_type ≡ value_type.Boolean)
      (λ t v h. let (w, f, g) = then_-parts (check c t) (as_asked Filter) v h in asked-mask w v g) ts vs (check_list-each Filter ts vs e)

  pub check_list-names : (ts : List Tree) (vs : List Typed) → check_list c Select ts ≡ Ok vs → first_repeated (map (λ (v : Typed). name v.tree) vs) ≡ None
  check_list-names ts vs e =
      let (ws, f, g) = then_-parts (all_results (map (asked Select) ts)) (with_names Select) vs e in
      let (same, distinct) = unless-parts ws vs (first_repeated (map (λ (t : Typed). name t.tree) ws)) g in
      subst (λ (z : List Typed). first_repeated (map (λ (v : Typed). name v.tree) z) ≡ None) same distinct

-- the answer of a filter, from the rows of its masks alone
abbrev bare : ℕ → TypedRows → Contents
bare n values = named [] (record { value_type = values.value_type; rows = stretch n values.rows })

abbrev bare_all : List TypedRows → Option (List Contents)
bare_all vs = option_map (λ n. map (bare n) vs) (broadcast_lengths (map (λ (v : TypedRows). length v.rows) vs))

abbrev values : Contents → TypedRows
values c = c.values

map-map : {A B C : Type 0} (f : B → C) (g : A → B) (as' : List A) → map f (map g as') ≡ map (λ a. f (g a)) as'
map-map f g [] = refl
map-map f g (a ∷ as') = ap (λ z. f (g a) ∷ z) (map-map f g as')

lined-bare : (columns : List Contents) → lined_up Filter columns ≡ bare_all (map values columns)
lined-bare columns =
    let lengths : map (λ (v : TypedRows). length v.rows) (map values columns) ≡ map (λ (c : Contents). length c.values.rows) columns = map-map (λ (v : TypedRows). length v.rows) values columns in
    sym (ap (λ (ns : List ℕ). option_map (λ n. map (bare n) (map values columns)) (broadcast_lengths ns)) lengths ∙ each (broadcast_lengths (map (λ (c : Contents). length c.values.rows) columns)))
  where
    each : (o : Option ℕ) → option_map (λ n. map (bare n) (map values columns)) o ≡ option_map (λ n. map (as_answer Filter n) columns) o
    each None = refl
    each (Some n) = ap Some (map-map (bare n) values columns)

module _ (kernels : List Kernel) (frame : List Contents) where
  all-values : (ts : List Tree) → option_map (map values) (all_of (map (mean kernels frame) ts)) ≡ all_of (map (rows kernels frame) ts)
  all-values [] = refl
  all-values (t ∷ ts) = go (rows kernels frame t) (all_of (map (mean kernels frame) ts)) (all_of (map (rows kernels frame) ts)) (all-values ts)
    where
      go :
          (o : Option TypedRows) (ms : Option (List Contents)) (vs : Option (List TypedRows)) → option_map (map values) ms ≡ vs →
          option_map (map values) (option_and_then (λ a. option_map (λ as'. a ∷ as') ms) (option_map (named (name t)) o)) ≡ option_and_then (λ a. option_map (λ as'. a ∷ as') vs) o
      go None ms vs e = refl
      go (Some v) None vs e = ap (option_map (λ as'. v ∷ as')) e
      go (Some v) (Some ms) vs e = ap (option_map (λ as'. v ∷ as')) e

  filter-rows : (ts : List Tree) → mean_list kernels frame Filter ts ≡ option_and_then bare_all (all_of (map (rows kernels frame) ts))
  filter-rows ts = go (all_of (map (mean kernels frame) ts)) ∙ ap (option_and_then bare_all) (all-values ts)
    where
      go : (ms : Option (List Contents)) → option_and_then (lined_up Filter) ms ≡ option_and_then bare_all (option_map (map values) ms)
      go None = refl
      go (Some columns) = lined-bare columns

module _ (c : Catalog) (context : Context) (Rewrite : Tree → Tree → Type 0) (keeps : KeepsMeaning c context Rewrite) (frame : List Contents) (fits : Fits frame c.schema) where
  reached-rows : (ts us : List Tree) → AllReach Rewrite (trees ts) (trees us) → map (rows c.kernels frame) ts ≡ map (rows c.kernels frame) us
  reached-rows [] [] h = refl
  reached-rows [] (u ∷ us) h = absurd h
  reached-rows (t ∷ ts) [] h = absurd h
  reached-rows (t ∷ ts) (u ∷ us) h =
      let first : rows c.kernels frame t ≡ rows c.kernels frame u = (Reaches-keeps c context Rewrite keeps t u h.0).rows frame fits in
      let rest = reached-rows ts us h.1 in
      cc

  reached-means : context ≡ Select → (ts us : List Tree) → AllReach Rewrite (trees ts) (trees us) → map (mean c.kernels frame) ts ≡ map (mean c.kernels frame) us
  reached-means select [] [] h = refl
  reached-means select [] (u ∷ us) h = absurd h
  reached-means select (t ∷ ts) [] h = absurd h
  reached-means select (t ∷ ts) (u ∷ us) h =
      let kept = Reaches-keeps c context Rewrite keeps t u h.0 in
      let first : mean c.kernels frame t ≡ mean c.kernels frame u =
      ap (λ (m : List ℕ). option_map (named m) (rows c.kernels frame t)) (kept.name select) ∙ ap (option_map (named (name u))) (kept.rows frame fits) in
      let rest = reached-means select ts us h.1 in
      cc

  -- lists whose trees reach those in their places are answered alike
  pub reached-answer : (ts us : List Tree) → AllReach Rewrite (trees ts) (trees us) → mean_list c.kernels frame context ts ≡ mean_list c.kernels frame context us
  reached-answer ts us h = go context refl
    where
      go : (x : Context) → context ≡ x → mean_list c.kernels frame x ts ≡ mean_list c.kernels frame x us
      go Select e = ap (λ (ms : List (Option Contents)). option_and_then (lined_up Select) (all_of ms)) (reached-means e ts us h)
      go Filter e =
          filter-rows c.kernels frame ts ∙ (ap (λ (ms : List (Option TypedRows)). option_and_then bare_all (all_of ms)) (reached-rows ts us h)
          ∙ sym (filter-rows c.kernels frame us))

  -- and bring no fault
  pub reached-faults : (us vs : Trees) → AllReach Rewrite us vs → Pairwise (λ u v. (f : PlanError) → HasFault c.kernels frame v f → HasFault c.kernels frame u f) us vs
  reached-faults none none h = tt
  reached-faults none (more v vs) h = absurd h
  reached-faults (more u us) none h = absurd h
  reached-faults (more u us) (more v vs) h = ((Reaches-keeps c context Rewrite keeps u v h.0).faults frame fits, reached-faults us vs h.1)

abbrev trees_of : List Typed → List Tree
trees_of vs = map (λ (v : Typed). v.tree) vs

abbrev types_of : List Typed → List ValueType
types_of vs = map (λ (v : Typed). v.value_type) vs

all_results-of : {A B : Type 0} (f : B → Result A PlanError) (bs : List B) (as' : List A) → Answered f bs as' → all_results (map f bs) ≡ Ok as'
all_results-of f [] [] h = refl
all_results-of f [] (a ∷ as') h = absurd h
all_results-of f (b ∷ bs) [] h = absurd h
all_results-of {A} f (b ∷ bs) (a ∷ as') h =
    ap (λ (r : Result A PlanError). then_ r (λ x. then_ (all_results (map f bs)) (λ (xs : List A). Ok (x ∷ xs)))) h.0
    ∙ ap (λ (r : Result (List A) PlanError). then_ r (λ xs. Ok (a ∷ xs))) (all_results-of f bs as' h.1)

-- the context asks of a type what it asked of a tree that has it
asks-value_type : (context : Context) (v w u : Typed) → as_asked context v ≡ Ok w → u.value_type ≡ w.value_type → as_asked context u ≡ Ok u
asks-value_type Select v w u e same = refl
asks-value_type Filter v w u e same = ap (λ (k : ValueType). or_fault InvalidOperation (given (is_boolean k) u)) (same ∙ asked-mask v w e)

named-of : (context : Context) (vs ws xs : List Typed) → (context ≡ Select → map (λ (v : Typed). name v.tree) vs ≡ map (λ (w : Typed). name w.tree) ws) → with_names context vs ≡ Ok xs → with_names context ws ≡ Ok ws
named-of Select vs ws xs names e =
    let (same, distinct) = unless-parts vs xs (first_repeated (map (λ (v : Typed). name v.tree) vs)) e in
    ap (unless_repeated ws) (sym (ap first_repeated (names refl)) ∙ distinct)
named-of Filter vs ws xs names e = refl

module _ (c : Catalog) (context : Context) (Rewrite : Tree → Tree → Type 0) (keeps : KeepsMeaning c context Rewrite) where
  -- trees with the types of those in their places
  abbrev retyped : List Typed → List Tree → List Typed
  retyped (v ∷ vs) (u ∷ us) = record { tree = u; value_type = v.value_type } ∷ retyped vs us
  retyped _ _ = []

  -- the trees us, checked, with the types of vs
  record IsRetyped (vs : List Typed) (us : List Tree) : Type 0 where
    pub answered : Answered (asked c context) us (retyped vs us)
    pub trees : trees_of (retyped vs us) ≡ us
    pub types : types_of (retyped vs us) ≡ types_of vs
    pub names : context ≡ Select → map (λ (v : Typed). name v.tree) vs ≡ map (λ (w : Typed). name w.tree) (retyped vs us)

  reached-typed : (ts : List Tree) (vs : List Typed) (us : List Tree) → Answered (asked c context) ts vs → AllReach Rewrite (trees (trees_of vs)) (trees us) → IsRetyped vs us
  reached-typed [] [] [] h ways = record { answered = tt; trees = refl; types = refl; names = λ select. refl }
  reached-typed [] [] (u ∷ us) h ways = absurd ways
  reached-typed [] (v ∷ vs) us h ways = absurd h
  reached-typed (t ∷ ts) [] us h ways = absurd h
  reached-typed (t ∷ ts) (v ∷ vs) [] h ways = absurd ways
  reached-typed (t ∷ ts) (v ∷ vs) (u ∷ us) h ways =
      let rest = reached-typed ts vs us h.1 ways.1 in
      let kept = Reaches-keeps c context Rewrite keeps v.tree u ways.0 in
      let (w, f, g) = then_-parts (check c t) (as_asked context) v h.0 in
      let checked : check c u ≡ Ok (record { tree = u; value_type = v.value_type }) = kept.value_type v.value_type (check-gives c t v (asked-check c context t v h.0)) in
      record {
        answered = (ap (λ (r : Result Typed PlanError). then_ r (as_asked context)) checked ∙ asks-value_type context w v (record { tree = u; value_type = v.value_type }) g refl, rest.answered);
        trees = ap (λ (xs : List Tree). u ∷ xs) rest.trees;
        types = ap (λ (ks : List ValueType). v.value_type ∷ ks) rest.types;
        names = λ select. let first : name v.tree ≡ name u = kept.name select in let others = rest.names select in cc;
      }

  -- what a checked list reaches is checked as it is, with the same types
  pub reached-checked :
      (ts : List Tree) (vs : List Typed) (us : List Tree) → check_list c context ts ≡ Ok vs → AllReach Rewrite (trees (trees_of vs)) (trees us) →
      (ws : List Typed) × (check_list c context us ≡ Ok ws) × (trees_of ws ≡ us) × (types_of ws ≡ types_of vs)
  reached-checked ts vs us e ways =
      let found = reached-typed ts vs us (check_list-each c context ts vs e) ways in
      let (xs, f, g) = then_-parts (all_results (map (asked c context) ts)) (with_names context) vs e in
      let named : with_names context vs ≡ Ok vs = ap (with_names context) (sym (named-same context xs vs g)) ∙ g in (
        retyped vs us,
        ap (λ (r : Result (List Typed) PlanError). then_ r (with_names context)) (all_results-of (asked c context) us (retyped vs us) found.answered)
            ∙ named-of context vs (retyped vs us) vs found.names named,
        found.trees,
        found.types,
      )
