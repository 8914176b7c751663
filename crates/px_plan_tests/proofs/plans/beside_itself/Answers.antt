use Rattle.px_expr.specs.Kernel.{all_kernels}
use Rattle.px_expr.specs.Plan.{catalog_of}
use Rattle.px_expr.specs.Tree.{more, none, tree_of}
use Rattle.px_plan.proofs.Shared.{both_checked, both_within}
use Rattle.px_plan_tests.proofs.plans.beside_itself.Goals as goal

pub add-requires : goal.add-requires
add-requires g c = both_within c.lower.new.arena c.in_ok-place.place.0 (tree_of c.args.mask.now.tree) c.in_ok-place.ensures.denotes

pub rewritten-requires-clause-checked : goal.rewritten-requires-clause-checked
rewritten-requires-clause-checked g c =
    let catalog = catalog_of c.args.plan.now.schema.now (all_kernels (λ b. (goal.ColumnsUdf-dyn g (b.vtable, b.value)).declared b.value) (λ b. (goal.ColumnsUdf-dyn g (b.vtable, b.value)).answer b.value) c.args.plan.now.kernels.now.entries.items) in
    let t = tree_of c.args.mask.now.tree in
    let d = c.in_ok-place.ensures.denotes in
    both_checked catalog c.add.new.self c.in_ok-both.both t c.new-roots.result.entries c.try_push.new.self.entries
    (c.in_ok-both.ensures.denotes (more t (more t none)) (d, (d, tt))) c.requires.mask c.new-roots.ensures c.in_ok-try_push.ensures.ok
