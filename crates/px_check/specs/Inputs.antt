-- What is found at the inputs of a node, and at the node over them.
use Rattle.std.specs.Prelude.{List, ◌++◌, map, Result, Ok, Err}
use Rattle.px_base.specs.declared.error.PlanError.{PlanError}
use Rattle.px_base.specs.declared.error.PlanError.TheVariants.{InvalidOperation}
use Rattle.px_expr.specs.Plan.{Catalog}
use Rattle.px_expr.specs.Tree.{Node, Tree, trees, fold_trees}
use Rattle.px_meaning.specs.Check.{Found, then_, all_results, operand_of, resolve, made, deferred, with_default_type_or, find}

-- what is found at a node over such inputs
abbrev pub at_node : Catalog → Node → List Found → Result Found PlanError
at_node c n inputs = with_default_type_or (deferred n) (then_ (resolve c n (map operand_of inputs)) (λ s. Ok (made n inputs s)))

-- what is found at each tree of a list, or the first fault
abbrev pub found_all : Catalog → List Tree → Result (List Found) PlanError
found_all c ts = all_results (fold_trees (find c) (trees ts))

-- what was found already, and then what is found at each tree of a list, or the first fault
abbrev pub found_after : Catalog → List Found → List Tree → Result (List Found) PlanError
found_after c known ts = then_ (found_all c ts) (λ rest. Ok (known ++ rest))

-- the answer at a node that is refused, from what is found at its inputs: their faults come first
abbrev pub refused_over : List (Result Found PlanError) → Result Found PlanError
refused_over answers = then_ (all_results answers) (λ _. Err InvalidOperation)
