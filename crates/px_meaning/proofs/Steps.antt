-- What rewrites keep of the tree at a place their steps keep of every tree around the place.
use Rattle.std.proofs.Common.{◌≡◌, ℕ, List, Option, Some, None, sym, ap, subst, refl, ◌∙◌}
use Rattle.std.specs.Prelude.{option_map}
use Rattle.px_base.specs.declared.error.PlanError.{PlanError}
use Rattle.px_types.specs.declared.value_type.ValueType.{ValueType}
use Rattle.px_semantics.specs.Rows.{TypedRows, Contents}
use Rattle.px_expr.specs.declared.context.Context.{Context}
use Rattle.px_expr.specs.declared.context.Context.TheVariants.{Select, Filter}
use Rattle.px_expr.specs.Kernel.{Kernel}
use Rattle.px_expr.specs.Tree.{Tree, Trees}
use Rattle.px_meaning.specs.Check.{HasType}
use Rattle.px_meaning.specs.Faults.{OwnFault, HasFault, SomeHasFault, own, of_input, of_first, of_rest}
use Rattle.px_meaning.specs.Laws.{KeepsMeaning}
use Rattle.px_meaning.specs.Mean.{node_rows, rows, named, mean, Same}
use Rattle.px_meaning.specs.Names.{node_name, name}
use Rattle.px_meaning.specs.Rewriting.{StepsTo, at_top, at_input, InputStepsTo, in_first, in_rest, Reaches, stays, goes_on}
use Rattle.px_meaning.specs.Schema.{Fits}
use Rattle.px_expr.specs.Plan.{Catalog}
use Rattle.px_meaning.proofs.Around.{fold_tree-step, fold_trees-step}
use Rattle.px_meaning.proofs.Typing.{Has, HaveAll, has, have_more, Has-HasType, HasType-Has}
use Rattle.px_meaning.proofs.Weights.{weight-step}

module _ (c : Catalog) (Rewrite : Tree → Tree → Type 0) (keeps : (t u : Tree) → Rewrite t u → (k : ValueType) → HasType c t k → HasType c u k) where
  mutual
    Has-step : (t u : Tree) → StepsTo Rewrite t u → (k : ValueType) → Has c t k → Has c u k
    Has-step t u (at_top rewrite) k h = HasType-Has c u k (keeps t u rewrite k (Has-HasType c t k h))
    Has-step _ _ (at_input {us} {us' = vs} step) k (has {ks} free all signed) = has free (HaveAll-step us vs step ks all) signed

    HaveAll-step : (us vs : Trees) → InputStepsTo Rewrite us vs → (ks : List ValueType) → HaveAll c us ks → HaveAll c vs ks
    HaveAll-step _ _ (in_first {u} {u' = v} step) _ (have_more {k} h all) = have_more (Has-step u v step k h) all
    HaveAll-step _ _ (in_rest {us} {us' = vs} step) _ (have_more {ks} h all) = have_more h (HaveAll-step us vs step ks all)

  -- a step keeps the type of the whole tree
  pub HasType-step : (t u : Tree) → StepsTo Rewrite t u → (k : ValueType) → HasType c t k → HasType c u k
  HasType-step t u step k h = Has-HasType c u k (Has-step t u step k (HasType-Has c t k h))

module _ (kernels : List Kernel) (frame : List Contents) (Rewrite : Tree → Tree → Type 0)
    (keeps : (t u : Tree) → Rewrite t u → rows kernels frame t ≡ rows kernels frame u)
    (within : (t u : Tree) → Rewrite t u → (f : PlanError) → HasFault kernels frame u f → HasFault kernels frame t f) where
  mutual
    -- after a step the whole tree has no other faults
    pub HasFault-step : (t u : Tree) → StepsTo Rewrite t u → (f : PlanError) → HasFault kernels frame u f → HasFault kernels frame t f
    HasFault-step t u (at_top rewrite) f h = within t u rewrite f h
    HasFault-step _ _ (at_input {n} {us} {us' = vs} step) f (own o) =
        own (subst (λ (ms : List (Option TypedRows)). OwnFault kernels frame n ms f) (sym (fold_trees-step (node_rows kernels frame) Rewrite keeps us vs step)) o)
    HasFault-step _ _ (at_input {us} {us' = vs} step) f (of_input h) = of_input (SomeHasFault-step us vs step f h)

    SomeHasFault-step : (us vs : Trees) → InputStepsTo Rewrite us vs → (f : PlanError) → SomeHasFault kernels frame vs f → SomeHasFault kernels frame us f
    SomeHasFault-step _ _ (in_first {u} {u' = v} step) f (of_first h) = of_first (HasFault-step u v step f h)
    SomeHasFault-step _ _ (in_first step) f (of_rest h) = of_rest h
    SomeHasFault-step _ _ (in_rest step) f (of_first h) = of_first h
    SomeHasFault-step _ _ (in_rest {us} {us' = vs} step) f (of_rest h) = of_rest (SomeHasFault-step us vs step f h)

-- steps keep what the rewrites keep
pub StepsTo-keeps : (c : Catalog) (context : Context) (Rewrite : Tree → Tree → Type 0) → KeepsMeaning c context Rewrite → KeepsMeaning c context (StepsTo Rewrite)
StepsTo-keeps c context Rewrite keeps =
    record {
      value_type = HasType-step c Rewrite keeps.value_type;
      rows = λ t u step frame fits. fold_tree-step (node_rows c.kernels frame) Rewrite (λ x y rewrite. keeps.rows x y rewrite frame fits) t u step;
      name = λ t u step select. fold_tree-step node_name Rewrite (λ x y rewrite. keeps.name x y rewrite select) t u step;
      faults = λ t u step frame fits. HasFault-step c.kernels frame Rewrite (λ x y rewrite. keeps.rows x y rewrite frame fits) (λ x y rewrite. keeps.faults x y rewrite frame fits) t u step;
      lighter = weight-step Rewrite keeps.lighter;
    }

-- what is reached has the type, the rows, the faults and the name of the tree that the steps began with
pub record ReachKeepsMeaning (c : Catalog) (context : Context) (t u : Tree) : Type 0 where
  pub value_type : (k : ValueType) → HasType c t k → HasType c u k
  pub rows : (frame : List Contents) → Fits frame c.schema → rows c.kernels frame t ≡ rows c.kernels frame u
  pub name : context ≡ Select → name t ≡ name u
  pub faults : (frame : List Contents) → Fits frame c.schema → (f : PlanError) → HasFault c.kernels frame u f → HasFault c.kernels frame t f

module _ (c : Catalog) (context : Context) (Rewrite : Tree → Tree → Type 0) (keeps : KeepsMeaning c context Rewrite) where
  pub Reaches-keeps : (t u : Tree) → Reaches Rewrite t u → ReachKeepsMeaning c context t u
  Reaches-keeps t _ stays = record { value_type = λ k h. h; rows = λ frame fits. refl; name = λ select. refl; faults = λ frame fits f h. h }
  Reaches-keeps t u (goes_on {u = v} step rest) =
      let one = StepsTo-keeps c context Rewrite keeps in
      let more = Reaches-keeps v u rest in
      record {
        value_type = λ k h. more.value_type k (one.value_type t v step k h);
        rows = λ frame fits. one.rows t v step frame fits ∙ more.rows frame fits;
        name = λ select. one.name t v step select ∙ more.name select;
        faults = λ frame fits f h. one.faults t v step frame fits f (more.faults frame fits f h);
      }

  -- columns of the same values are the same, and in a select their names must be so too
  same_values : (m n : List ℕ) (o : Option TypedRows) → (context ≡ Select → m ≡ n) → Same context (option_map (named m) o) (option_map (named n) o)
  same_values m n o names = go context names o
    where
      go : (x : Context) → (x ≡ Select → m ≡ n) → (o : Option TypedRows) → Same x (option_map (named m) o) (option_map (named n) o)
      go Select names None = tt
      go Filter names None = tt
      go Select names (Some values) = ap (λ (z : List ℕ). named z values) (names refl)
      go Filter names (Some values) = refl

  -- what is reached means the same
  pub Reaches-same : (t u : Tree) → Reaches Rewrite t u → (frame : List Contents) → Fits frame c.schema → Same context (mean c.kernels frame t) (mean c.kernels frame u)
  Reaches-same t u way frame fits =
      let kept = Reaches-keeps t u way in
      subst (λ (o : Option TypedRows). Same context (mean c.kernels frame t) (option_map (named (name u)) o)) (kept.rows frame fits)
      (same_values (name t) (name u) (rows c.kernels frame t) kept.name)
