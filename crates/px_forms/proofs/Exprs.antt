-- Expressions of a list are written.
use Rattle.std.proofs.Common.{◌≡◌, ℕ, ◌<◌, ◌+◌, List, [], ◌∷◌, ◌++◌, map, drop, length, get_or, codes, Option, Some, None, option_map, Result, Ok, Err, Vec, Global, refl, sym, ap, ◌∙◌, drop-cons, add-one}
use Rattle.std.proofs.lemmas.List.{map-append}
use Rattle.serde_json.specs.Data.{Data, string, array}
use Rattle.serde_json.specs.View.{view, items_of}
use Rattle.serde_json.specs.declared.value.Value.{Value}
use Rattle.px_base.specs.declared.error.PlanError.{PlanError}
use Rattle.px_functions.specs.declared.evaluated.EvaluatedFunction.{EvaluatedFunction}
use Rattle.px_functions.specs.declared.function.FunctionExpr.{FunctionExpr}
use Rattle.px_functions.specs.Evaluated.{evaluated}
use Rattle.px_expr.specs.Tree.{Node, Tree, node_for, function_node, over, tree_of}
use Rattle.px_expr.specs.declared.expr.Expr.{Expr}
use Rattle.px_base.specs.Answer.{GivesSeen}
use Rattle.px_json.specs.Built.{single_member}
use Rattle.px_forms.specs.Names.{function_text}
use Rattle.px_forms.specs.Written.{function_data, node_data, data_of, all_data}
use Rattle.px_forms.proofs.Forms.{one_more, after_none}
use Rattle.px_forms.proofs.Trees.{fold_trees-trees}

written_from : (es : List Expr) (i : ℕ) (e : Expr) (ds : List Data) (d : Data) → i < length es → Some d ≡ data_of (tree_of (get_or es i e))
    → option_map (λ us. ds ++ us) (all_data (map tree_of (drop i es))) ≡ option_map (λ us. (ds ++ d ∷ []) ++ us) (all_data (map tree_of (drop (i + 1) es)))
written_from es i e ds d h is = rw (add-one, drop-cons es i e, ← is) (one_more ds d _)

-- one more value is written, and those of the expressions from the next on are left
pub written_step : (es : List Expr) (i : ℕ) (e : Expr) (all : Option (List Data)) (vs : List Value) (v : Value) (new : List Value) → i < length es → e ≡ get_or es i e → Some (view v) ≡ data_of (tree_of e) → new ≡ vs ++ v ∷ []
    → all ≡ option_map (λ us. map view vs ++ us) (all_data (map tree_of (drop i es)))
    → all ≡ option_map (λ us. map view new ++ us) (all_data (map tree_of (drop (i + 1) es)))
written_step es i e all vs v new h is writes pushed so_far =
    let at : Some (view v) ≡ data_of (tree_of (get_or es i e)) = writes ∙ ap (λ (x : Expr). data_of (tree_of x)) is in
    rw (pushed, map-append) (so_far ∙ written_from es i e (map view vs) (view v) h at)

-- the values after none are all values
pub written_all : (ts : List Tree) (before : List Data) (r : Result (Option (Vec Value Global)) PlanError) → before ≡ []
    → GivesSeen (option_map (λ (v : Vec Value Global). map view v.items)) r (option_map (λ us. before ++ us) (all_data ts))
    → GivesSeen (option_map (λ (v : Vec Value Global). map view v.items)) r (all_data ts)
written_all ts before (Ok o) none e = e ∙ ap (λ (ds : List Data). option_map (λ us. ds ++ us) (all_data ts)) none ∙ after_none (all_data ts)
written_all ts before (Err f) none e = e

-- a function that is not evaluated has no form, and one that is has its node's
pub function_unwritten : (f : FunctionExpr) (ts : List Tree) → evaluated f ≡ None → None ≡ data_of (over (function_node f) ts)
function_unwritten f ts is = ap (λ (o : Option EvaluatedFunction). data_of (over (node_for f o) ts)) (sym is)

pub function_form : (f : FunctionExpr) (own : EvaluatedFunction) (ts : List Tree) → evaluated f ≡ Some own → data_of (over (Node.Function own) ts) ≡ data_of (over (function_node f) ts)
function_form f own ts is = ap (λ (o : Option EvaluatedFunction). data_of (over (node_for f o) ts)) (sym is)

-- a function is written as its text and its inputs after it
pub function_written : (f : EvaluatedFunction) (ts : List Tree) (before : List Data) (o : Option (List Data)) → before ≡ string (function_text f) ∷ [] → o ≡ option_map (λ us. before ++ us) (all_data ts)
    → option_map (λ ds. single_member (codes "fn") (array (items_of ds))) o ≡ data_of (over (Node.Function f) ts)
function_written f ts before o is e = rw (e, is, fold_trees-trees node_data ts) (go (all_data ts))
  where
    go : (o : Option (List Data)) → option_map (λ ds. single_member (codes "fn") (array (items_of ds))) (option_map (λ us. (string (function_text f) ∷ []) ++ us) o) ≡ option_map (function_data f) o
    go None = refl
    go (Some ds) = refl
