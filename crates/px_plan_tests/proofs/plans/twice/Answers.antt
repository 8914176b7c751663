use Rattle.px_expr.specs.Kernel.{all_kernels}
use Rattle.px_expr.specs.Plan.{catalog_of}
use Rattle.px_expr.specs.Tree.{tree_of}
use Rattle.px_plan.proofs.Shared.{twice_checked}
use Rattle.px_plan_tests.proofs.plans.twice.Goals as goal

pub rewritten-requires-clause-checked : goal.rewritten-requires-clause-checked
rewritten-requires-clause-checked g c =
    let catalog = catalog_of c.args.plan.now.schema.now (all_kernels (λ b. (goal.ColumnsUdf-dyn g (b.vtable, b.value)).declared b.value) (λ b. (goal.ColumnsUdf-dyn g (b.vtable, b.value)).answer b.value) c.args.plan.now.kernels.now.entries.items) in
    twice_checked catalog c.lower.new.arena c.in_ok-place.place (tree_of c.args.mask.now.tree) c.new-roots.result.entries c.try_push.new.self.entries c.try_push-2.new.self.entries
    c.in_ok-place.ensures.denotes c.requires.mask c.new-roots.ensures c.in_ok-try_push.ensures.ok c.in_ok-try_push-2.ensures.ok
