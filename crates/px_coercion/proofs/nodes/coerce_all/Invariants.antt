use Rattle.std.proofs.Common.{◌≡◌, map, ◌++◌}
use Rattle.std.specs.Vec.Iter.{into_iter_items}
use Rattle.px_expr.specs.Tree.{tree_of}
use Rattle.px_expr.specs.Options.{options_of}
use Rattle.px_coercion.specs.Found.{seen, options_in, all_coerced}
use Rattle.px_coercion.proofs.nodes.coerce_all.Given as goal

-- the answer is the trees so far, and then those of the inputs that are left
abbrev pub invariant-loop-input : goal.invariant-loop-input
invariant-loop-input l = record {
  answer : all_coerced l.value_type (map seen l.fn.inputs.items) ≡ map tree_of l.trees.entries ++ all_coerced l.value_type (map seen (into_iter_items l.input-iterator));
  kept : map options_in l.fn.inputs.items ≡ map options_of l.trees.entries ++ map options_in (into_iter_items l.input-iterator);
}
