-- The node of a function: one of the two kinds that a function can have.
use Rattle.std.proofs.Common.{◌≡◌, Bool, true, false, Option, Some, None, refl, ap}
use Rattle.px_functions.specs.declared.evaluated.EvaluatedFunction.{EvaluatedFunction}
use Rattle.px_functions.specs.declared.function.FunctionExpr.{FunctionExpr}
use Rattle.px_functions.specs.Evaluated.{evaluated}
use Rattle.px_expr.specs.Tree.{Node as Root, Function, OtherFunction, node_for, function_node}

-- what is the same for both kinds, that is so for the node
pub at_function : {A : Type 0} (P : Root → A) (v : A) → ((f : EvaluatedFunction) → P (Function f) ≡ v) → ((f : FunctionExpr) → P (OtherFunction f) ≡ v) → (g : FunctionExpr) → P (function_node g) ≡ v
at_function {A} P v own other g = go (evaluated g)
  where
    go : (o : Option EvaluatedFunction) → P (node_for g o) ≡ v
    go (Some f) = own f
    go None = other g

abbrev pub is_function : Root → Bool
is_function (Function f) = true
is_function (OtherFunction f) = true
is_function _ = false

pub is_function-node : (g : FunctionExpr) → is_function (function_node g) ≡ true
is_function-node g = at_function is_function true (λ f. refl) (λ f. refl) g

-- an evaluated function's node tells the function
pub node-evaluated : (g : FunctionExpr) (f : EvaluatedFunction) → function_node g ≡ Function f → evaluated g ≡ Some f
node-evaluated g f e = go (evaluated g) e
  where
    go : (o : Option EvaluatedFunction) → node_for g o ≡ Function f → o ≡ Some f
    go (Some h) e = let same : h ≡ f = cc in ap Some same
    go None e = cc
