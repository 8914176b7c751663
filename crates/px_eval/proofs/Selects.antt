-- What a selection answers, from what was rewritten and what that means.
use Rattle.std.proofs.Common.{◌≡◌, ◌⊎◌, inl, inr, ◌+◌, ◌-◌, ◌^◌, ◌≤◌, ℕ, List, [], ◌∷◌, ◌++◌, map, length, min, Option, Some, None, Result, Ok, Err, refl, sym, ◌∙◌, ap, subst, arith, length-append}
use Rattle.std.specs.Prelude.{option_map, slice_get, IsSome, IsOk, IfOk, IfErr, OnOk}
use Rattle.std.specs.List.{All}
use Rattle.std.proofs.lemmas.List.Elements.{All-head, All-tail}
use Rattle.std.proofs.lemmas.Option.{same_Some}
use Rattle.px_base.specs.declared.error.PlanError.{PlanError}
use Rattle.px_base.specs.declared.error.PlanError.TheVariants.{OutOfMemory}
use Rattle.px_semantics.specs.Rows.{TypedRows, Contents}
use Rattle.px_expr.specs.declared.context.Context.{Context}
use Rattle.px_expr.specs.declared.context.Context.TheVariants.{Select, Filter}
use Rattle.px_expr.specs.Plan.{Catalog}
use Rattle.px_expr.specs.Tree.{Tree, tree, Trees, none, more, trees, fold_trees}
use Rattle.px_meaning.specs.Check.{Typed, HasType, check_list}
use Rattle.px_meaning.specs.Faults.{SomeHasFault, of_first, of_rest, HasUnevenInputs}
use Rattle.px_meaning.specs.Mean.{rows, named, mean, Same, mean_list}
use Rattle.px_meaning.specs.Names.{name}
use Rattle.px_meaning.specs.Rewrites.{IsRewrite}
use Rattle.px_meaning.specs.Rewriting.{Pairwise, AllReach, Moves}
use Rattle.px_meaning.specs.Schema.{Fits}
use Rattle.px_meaning.specs.Weight.{nodes, node_count, count_nodes}
use Rattle.px_meaning.proofs.Weights.{sum-cons}
use Rattle.px_meaning.proofs.Lines.{IsRewrite-keeps}
use Rattle.px_meaning.proofs.Lists.{check_list-checked, reached-answer}
use Rattle.px_arena.specs.declared.node.AExpr.{AExpr}
use Rattle.px_arena.specs.declared.node.Node.{Node}
use Rattle.px_arena.specs.Denotes.{inputs_of, Denotes, DenoteAll, IsIn, first, later, Reaches, here, below}
use Rattle.px_rules.specs.Plan.{AreChecked, AreCheckedAt, places}
use Rattle.px_rules.specs.Plan as rules
use Rattle.px_plan.specs.Optimized.{Rewritten, typed_trees, RootsDenote, FromChecked}
use Rattle.px_eval.specs.Evaluated.{DenoteTrees, HasListFault}
use Rattle.px_eval.specs.Fills.{HasTicked}
use Rattle.px_eval.specs.Selected.{Selected, answered, checked_trees, OnChecked, MeansTheSame, IsCounted, IsRefusal}
use Rattle.px_eval.proofs.Lists.{in_left}
use Rattle.px_eval.proofs.Columns.{list_of, list_of-is}

-- places that are reached, as many as the nodes of trees
in_right : (p : ℕ) (ps qs : List ℕ) → IsIn p qs → IsIn p (ps ++ qs)
in_right p [] qs i = i
in_right p (m ∷ ps) qs i = later (in_right p ps qs i)

record ReachedBy (items : List AExpr) (ns : List ℕ) (count : ℕ) : Type 0 where
  pub reached : List ℕ
  pub all : (n p : ℕ) → IsIn n ns → Reaches items n p → IsIn p reached
  pub many : length reached ≡ count

reached_none : (items : List AExpr) → ReachedBy items [] 0
reached_none items = record { reached = []; all = λ n p i r. no n p i; many = refl }
  where
    no : (n p : ℕ) → IsIn n [] → IsIn p []
    no n p i = elim i [ ]

reached_place : (items : List AExpr) (n : ℕ) (x : AExpr) (count : ℕ) → slice_get items n ≡ Some x → ReachedBy items (inputs_of x) count → ReachedBy items (n ∷ []) (count + 1)
reached_place items n x count at b =
    let m : length b.reached ≡ count = b.many in
    record { reached = n ∷ b.reached; all = λ m p i r. from m p i r; many = omega arith }
  where
    under : (p : ℕ) → Reaches items n p → IsIn p (n ∷ b.reached)
    under _ here = first
    under p (below {m} y at' i r) =
        let same : y ≡ x = same_Some y x (sym at' ∙ at) in
        later (b.all m p (subst (λ (z : AExpr). IsIn m (inputs_of z)) same i) r)

    from : (m p : ℕ) → IsIn m (n ∷ []) → Reaches items m p → IsIn p (n ∷ b.reached)
    from _ p first r = under p r
    from m p (later i) r = elim i [ ]

reached_both : (items : List AExpr) (n : ℕ) (ns : List ℕ) (a b : ℕ) → ReachedBy items (n ∷ []) a → ReachedBy items ns b → ReachedBy items (n ∷ ns) (a + b)
reached_both items n ns a b one rest =
    let s : length one.reached ≡ a = one.many in
    let t : length rest.reached ≡ b = rest.many in
    let u : length (one.reached ++ rest.reached) ≡ length one.reached + length rest.reached = length-append one.reached rest.reached in
    record { reached = one.reached ++ rest.reached; all = λ m p i r. from m p i r; many = omega arith }
  where
    from : (m p : ℕ) → IsIn m (n ∷ ns) → Reaches items m p → IsIn p (one.reached ++ rest.reached)
    from _ p first r = in_left p one.reached rest.reached (one.all n p first r)
    from m p (later i) r = in_right p one.reached rest.reached (rest.all m p i r)

mutual
  reached_tree : (items : List AExpr) (n : ℕ) (t : Tree) → Denotes items n t → ReachedBy items (n ∷ []) (nodes t)
  reached_tree items n (tree k us) (x, at, is, ds) = reached_place items n x (node_count us) at (reached_trees items (inputs_of x) us ds)

  reached_trees : (items : List AExpr) (ns : List ℕ) (us : Trees) → DenoteAll items ns us → ReachedBy items ns (node_count us)
  reached_trees items [] none ds = reached_none items
  reached_trees items [] (more u us) ds = absurd ds
  reached_trees items (n ∷ ns) none ds = absurd ds
  reached_trees items (n ∷ ns) (more u us) (d, ds) =
      subst (ReachedBy items (n ∷ ns)) (sym (sum-cons (nodes u) (fold_trees count_nodes us)))
      (reached_both items n ns (nodes u) (node_count us) (reached_tree items n u d) (reached_trees items ns us ds))

-- a step for each node at most
pub ticked_nodes : (items : List AExpr) (ns : List ℕ) (us : Trees) (s s' : ℕ) → HasTicked items ns s s' → DenoteAll items ns us → s' ≤ s + node_count us
ticked_nodes items ns us s s' ticked ds =
    let b = reached_trees items ns us ds in
    let m : length b.reached ≡ node_count us = b.many in
    let h : s' ≤ s + length b.reached = ticked.most b.reached b.all in
    omega arith

types_kept : (c : Catalog) (context : Context) (vs : List Typed) (us : Trees) → All (λ (v : Typed). HasType c v.tree v.value_type) vs → Pairwise (rules.MeansTheSame c context) (typed_trees vs) us → AreChecked c us
types_kept c context [] none all h = tt
types_kept c context [] (more u us) all h = absurd h
types_kept c context (v ∷ vs) none all h = absurd h
types_kept c context (v ∷ vs) (more u us) all (m, ms) = (
  (v.value_type, m.value_type v.value_type (All-head (λ (v : Typed). HasType c v.tree v.value_type) v vs all)),
  types_kept c context vs us (All-tail (λ (v : Typed). HasType c v.tree v.value_type) v vs all) ms,
)

-- trees of the same rows, and of the same name where the context shows it
same_of : (context : Context) (o : Option TypedRows) (n m : List ℕ) → (context ≡ Select → n ≡ m) → Same context (option_map (named n) o) (option_map (named m) o)
same_of Select None n m e = tt
same_of Select (Some v) n m e = ap (λ (z : List ℕ). named z v) (e refl)
same_of Filter None n m e = tt
same_of Filter (Some v) n m e = refl

same_means : (c : Catalog) (context : Context) (us vs : Trees) → Pairwise (rules.MeansTheSame c context) us vs → Pairwise (MeansTheSame c context) us vs
same_means c context none none h = tt
same_means c context none (more v vs) h = absurd h
same_means c context (more u us) none h = absurd h
same_means c context (more u us) (more v vs) (m, ms) = (
  (λ frame fits.
      subst (λ (o : Option TypedRows). Same context (mean c.kernels frame u) (option_map (named (name v)) o)) (m.rows frame fits)
      (same_of context (rows c.kernels frame u) (name u) (name v) m.name)),
  same_means c context us vs ms,
)

module _ (c : Catalog) (context : Context) (frame : List Contents) (fits : Fits frame c.schema) (e : PlanError) where
  same_rows : (ts us : List Tree) → Pairwise (rules.MeansTheSame c context) (trees ts) (trees us) → map (rows c.kernels frame) ts ≡ map (rows c.kernels frame) us
  same_rows [] [] h = refl
  same_rows [] (u ∷ us) h = absurd h
  same_rows (t ∷ ts) [] h = absurd h
  same_rows (t ∷ ts) (u ∷ us) (m, ms) =
      let one : rows c.kernels frame t ≡ rows c.kernels frame u = m.rows frame fits in
      let rest = same_rows ts us ms in
      cc

  faults_back : (us vs : Trees) → Pairwise (rules.MeansTheSame c context) us vs → SomeHasFault c.kernels frame vs e → SomeHasFault c.kernels frame us e
  faults_back us none h f = elim f [ ]
  faults_back none (more v vs) h f = absurd h
  faults_back (more u us) (more v vs) (m, ms) (of_first f) = of_first (m.faults frame fits e f)
  faults_back (more u us) (more v vs) (m, ms) (of_rest f) = of_rest (faults_back us vs ms f)

  list_faults_back : (ts us : List Tree) → Pairwise (rules.MeansTheSame c context) (trees ts) (trees us) → HasListFault c.kernels frame us e → HasListFault c.kernels frame ts e
  list_faults_back ts us h (inl f) = inl (faults_back (trees ts) (trees us) h f)
  list_faults_back ts us h (inr (is, f)) = inr (is, subst (λ (z : List (Option TypedRows)). HasUnevenInputs z) (sym (same_rows ts us h)) f)

ok_of : {A : Type 0} (r : Result A PlanError) → IsOk r → (a : A) × (r ≡ Ok a)
ok_of (Ok a) h = (a, refl)
ok_of (Err e) h = cc

module _ (c : Catalog) (context : Context) (ts : List Tree) (o : Rewritten) where
  abbrev checked : Result (List Typed) PlanError
  checked = check_list c context ts

  -- the roots denote checked trees
  pub checked_roots :
      IsOk checked → (us : Trees) × RootsDenote o us → FromChecked checked (Pairwise (rules.MeansTheSame c context)) o → AreCheckedAt c o.arena (places o.roots)
  checked_roots ok (us, d) h =
      let (vs, is) = ok_of checked ok in
      (us, d, types_kept c context vs us (check_list-checked c context ts vs is) (h vs us is d))

  module _ (frame : List Contents) (fits : Fits frame c.schema) where
    pub answer_columns :
        (s : Selected) → FromChecked checked (AllReach (IsRewrite c context)) o → DenoteTrees o.arena o.roots (answered s) → mean_list c.kernels frame context (answered s) ≡ Some s.columns →
        OnChecked checked (λ us. mean_list c.kernels frame context us ≡ Some s.columns)
    answer_columns s h d e = λ vs is. reached-answer c context (IsRewrite c context) (IsRewrite-keeps c context) frame fits (checked_trees vs) (answered s) (h vs (trees (answered s)) is d) ∙ e

    -- an error of the rewritten trees, as one of the checked ones
    pub answer_error :
        (e : PlanError) → IsOk checked → (us : Trees) × RootsDenote o us → FromChecked checked (Pairwise (rules.MeansTheSame c context)) o →
        ((us : List Tree) → DenoteTrees o.arena o.roots us → (e ≡ OutOfMemory) ⊎ HasListFault c.kernels frame us e) → IsRefusal c frame checked e
    answer_error e ok (us, d) h f =
        let (vs, is) = ok_of checked ok in
        let d' : DenoteTrees o.arena o.roots (list_of us) = subst (λ (z : Trees). DenoteAll o.arena (places o.roots) z) (sym (list_of-is us)) d in
        go vs is (h vs (trees (list_of us)) is d') (f (list_of us) d')
      where
        go : (vs : List Typed) → checked ≡ Ok vs → Pairwise (rules.MeansTheSame c context) (typed_trees vs) (trees (list_of us)) → (e ≡ OutOfMemory) ⊎ HasListFault c.kernels frame (list_of us) e → IsRefusal c frame checked e
        go vs is m (inl g) = inl g
        go vs is m (inr g) = inr (inr (vs, is, list_faults_back c context frame fits e (checked_trees vs) (list_of us) m g))

    pub answer_complete :
        (P : Type 0) → (us : Trees) × RootsDenote o us → FromChecked checked (AllReach (IsRewrite c context)) o →
        ((us : List Tree) → DenoteTrees o.arena o.roots us → IsSome (mean_list c.kernels frame context us) → P) →
        OnChecked checked (λ us. IsSome (mean_list c.kernels frame context us) → P)
    answer_complete P (us, d) h f = λ vs is some.
        let d' : DenoteTrees o.arena o.roots (list_of us) = subst (λ (z : Trees). DenoteAll o.arena (places o.roots) z) (sym (list_of-is us)) d in
        let same = reached-answer c context (IsRewrite c context) (IsRewrite-keeps c context) frame fits (checked_trees vs) (list_of us) (h vs (trees (list_of us)) is d') in
        f (list_of us) d' (subst (λ (z : Option (List Contents)). IsSome z) same some)

  pub answer_reach : (s : Selected) → FromChecked checked (AllReach (IsRewrite c context)) o → DenoteTrees o.arena o.roots (answered s) → OnChecked checked (λ us. AllReach (IsRewrite c context) (trees us) (trees (answered s)))
  answer_reach s h d = λ vs is. h vs (trees (answered s)) is d

  pub answer_meaning :
      (s : Selected) → FromChecked checked (Pairwise (rules.MeansTheSame c context)) o → DenoteTrees o.arena o.roots (answered s) → OnChecked checked (λ us. Pairwise (MeansTheSame c context) (trees us) (trees (answered s)))
  answer_meaning s h d = λ vs is. same_means c context (typed_trees vs) (trees (answered s)) (h vs (trees (answered s)) is d)

  pub answer_counted :
      (s : Selected) (old mid new : ℕ) → FromChecked checked (λ ts us. Moves (IsRewrite c context) ts us (mid - old)) o → DenoteTrees o.arena o.roots (answered s) → o.rewrites ≡ min (mid - old) (2 ^ 64 - 1) →
      s.rewrites ≡ o.rewrites → old ≤ mid → HasTicked o.arena (places o.roots) mid new → OnChecked checked (λ us. IsCounted (IsRewrite c context) us (answered s) s.rewrites (new - old))
  answer_counted s old mid new h d count same grew ticked = λ vs is.
      let most : new ≤ mid + node_count (trees (answered s)) = ticked_nodes o.arena (places o.roots) (trees (answered s)) mid new ticked d in
      let least : mid ≤ new = ticked.least in
      record {
        rewrites = mid - old;
        moves = h vs (trees (answered s)) is d;
        count_is = same ∙ count;
        at_least = omega arith;
        at_most = omega arith;
      }

-- the same of an answer that may be an error
pub when_ok : {A : Type 0} (r : Result A PlanError) (P Q : A → Type 0) → IfOk r P → ((a : A) → P a → Q a) → IfOk r Q
when_ok (Ok a) P Q h f = f a h
when_ok (Err e) P Q h f = tt

pub both_ok : {A : Type 0} (r : Result A PlanError) (P Q : A → Type 0) → IfOk r P → IfOk r Q → IfOk r (λ a. P a × Q a)
both_ok (Ok a) P Q h i = (h, i)
both_ok (Err e) P Q h i = tt

pub when_err : {A : Type 0} (r : Result A PlanError) (P Q : PlanError → Type 0) → IfErr r P → ((e : PlanError) → P e → Q e) → IfErr r Q
when_err (Ok a) P Q h f = tt
when_err (Err e) P Q h f = f e h

pub on_ok : {A : Type 0} (r : Result A PlanError) (P : Type 0) → P → OnOk r P
on_ok (Ok a) P h = h
on_ok (Err e) P h = tt

-- what holds of an arena and its roots, of those that are the same
pub moved :
    (Holds : List AExpr → List Node → Type 0) (items items' : List AExpr) (roots roots' : List Node) → items ≡ items' → roots ≡ roots' → Holds items roots → Holds items' roots'
moved Holds items items' roots roots' a r h = subst (λ (ns : List Node). Holds items' ns) r (subst (λ (xs : List AExpr). Holds xs roots) a h)
