use Rattle.std.proofs.Common.{◌≡◌, map, drop, take, ◌++◌, Ok}
use Rattle.px_expr.specs.Tree.{tree_of}
use Rattle.px_expr.specs.Options.{options_of}
use Rattle.px_meaning.specs.Check.{then_, all_results, check, as_asked}
use Rattle.px_expr.specs.Plan.{catalog_of}
use Rattle.px_coercion.specs.CheckedTree.{CheckedTree, typed_of}
use Rattle.px_check.proofs.check.check_each.Given as goal

-- the answer is the trees so far, and then those of the expressions that are left
abbrev pub invariant-loop-expr : goal.invariant-loop-expr
invariant-loop-expr g l = record {
  answer : all_results (map (λ t. then_ (check (catalog_of l.schema (g.K.Kernels.definitions l.kernels)) t) (as_asked l.context)) (map tree_of l.exprs))
      ≡ then_ (all_results (map (λ t. then_ (check (catalog_of l.schema (g.K.Kernels.definitions l.kernels)) t) (as_asked l.context)) (map tree_of (drop l.expr-index l.exprs)))) (λ rest. Ok (map typed_of l.list.entries ++ rest));
  kept : map (λ (c : CheckedTree). options_of c.tree) l.list.entries ≡ map options_of (take l.expr-index l.exprs);
}
