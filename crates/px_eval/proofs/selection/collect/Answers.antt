use Rattle.std.proofs.Common.{◌∙◌, List, sym}
use Rattle.px_arena.specs.declared.node.AExpr.{AExpr}
use Rattle.px_arena.specs.declared.node.Node.{Node}
use Rattle.px_expr.specs.Kernel.{all_kernels}
use Rattle.px_rules.specs.Plan.{AreCheckedAt, places}
use Rattle.px_eval.specs.Own.{frame_catalog}
use Rattle.px_eval.proofs.Columns.{denoted_trees}
use Rattle.px_eval.proofs.Selects.{moved}
use Rattle.px_eval.proofs.selection.collect.Goals as goal

pub raise_all-requires : goal.raise_all-requires
raise_all-requires g c =
    let kernels = all_kernels (λ b. (goal.ColumnsUdf-dyn g (b.vtable, b.value)).declared b.value) (λ b. (goal.ColumnsUdf-dyn g (b.vtable, b.value)).answer b.value) c.args.kernels.now.entries.items in
    let arena = c.args.optimized.now.arena in
    let roots = c.args.optimized.now.roots in
    let same = c.as_slice-roots.ensures ∙ c.roots.ensures in
    denoted_trees (frame_catalog kernels c.args.frame.now) c.arena-arena.result.now c.as_slice-roots.result.now
    (moved (λ (items : List AExpr) (ns : List Node). AreCheckedAt (frame_catalog kernels c.args.frame.now) items (places ns)) arena c.arena-arena.result.now roots c.as_slice-roots.result.now (sym c.arena-arena.ensures) (sym same) c.requires)
