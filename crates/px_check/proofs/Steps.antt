-- Steps of the checker's loops.
use Rattle.std.proofs.Common.{◌≡◌, ℕ, Result, Ok, Err, List, [], ◌∷◌, Option, Some, None, ◌++◌, refl, sym, ap, ◌∙◌, append_assoc}
use Rattle.px_base.specs.declared.error.PlanError.{PlanError}
use Rattle.px_base.specs.declared.error.PlanError.TheVariants.{InvalidOperation}
use Rattle.px_types.specs.Schemas.{unless_repeated}
use Rattle.px_expr.specs.Plan.{Catalog}
use Rattle.px_expr.specs.Tree.{Tree, trees, fold_trees}
use Rattle.px_meaning.specs.Check as check
use Rattle.px_meaning.specs.Check.{then_, all_results, find, found}
use Rattle.px_check.specs.Inputs.{found_after, refused_over}

-- whether a name comes twice is the same of fields and of trees
pub names_kept : {A B : Type 0} (a b : A) (v : B) (o : Option (List ℕ)) → unless_repeated a o ≡ Ok b → unless_repeated v o ≡ Ok v
names_kept a b v None e = refl
names_kept a b v (Some name) e = cc

pub names_refused : {A B : Type 0} (a : A) (v : B) (e : PlanError) (o : Option (List ℕ)) → unless_repeated a o ≡ Err e → unless_repeated v o ≡ Err e
names_refused a v e None h = cc
names_refused a v e (Some name) h = cc

-- one more answer of a list is known
pub all_results_step : {A : Type 0} (r : Result A PlanError) (rs : List (Result A PlanError)) (known : List A) (a : A) → r ≡ Ok a
    → then_ (all_results (r ∷ rs)) (λ rest. Ok (known ++ rest)) ≡ then_ (all_results rs) (λ rest. Ok ((known ++ a ∷ []) ++ rest))
all_results_step {A} r rs known a e =
    ap (λ (s : Result A PlanError). then_ (all_results (s ∷ rs)) (λ rest. Ok (known ++ rest))) e ∙ go (all_results rs)
  where
    go : (s : Result (List A) PlanError) → then_ (then_ s (λ as'. Ok (a ∷ as'))) (λ rest. Ok (known ++ rest)) ≡ then_ s (λ rest. Ok ((known ++ a ∷ []) ++ rest))
    go (Ok as') = ap Ok (sym (append_assoc known (a ∷ []) as'))
    go (Err f) = refl

-- one more tree of a list is checked
pub found_step : (c : Catalog) (known : List check.Found) (t : Tree) (ts : List Tree) (f : check.Found) → found c t ≡ Ok f
    → found_after c known (t ∷ ts) ≡ found_after c (known ++ f ∷ []) ts
found_step c known t ts f e = all_results_step (found c t) (fold_trees (find c) (trees ts)) known f e

-- where the first input has no fault, the faults of a refused node are those of the other inputs
pub refused_more : (r : Result check.Found PlanError) (rs : List (Result check.Found PlanError)) (f : check.Found) → r ≡ Ok f → refused_over (r ∷ rs) ≡ refused_over rs
refused_more r rs f e = ap (λ (s : Result check.Found PlanError). refused_over (s ∷ rs)) e ∙ go (all_results rs)
  where
    go : (s : Result (List check.Found) PlanError) → then_ {B = check.Found} (then_ s (λ as'. Ok (f ∷ as'))) (λ _. Err InvalidOperation) ≡ then_ s (λ _. Err InvalidOperation)
    go (Ok as') = refl
    go (Err x) = refl
