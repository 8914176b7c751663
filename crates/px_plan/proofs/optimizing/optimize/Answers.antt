use Rattle.std.proofs.Common.{◌≡◌, ◌+◌, ◌-◌, ◌≤◌, List, map, Result, Ok, sym, ◌∙◌, ap}
use Rattle.px_base.specs.declared.error.PlanError.{PlanError}
use Rattle.px_expr.specs.Kernel.{all_kernels}
use Rattle.px_expr.specs.Plan.{catalog_of}
use Rattle.px_expr.specs.Tree.{Trees, tree_of}
use Rattle.px_meaning.specs.Check.{Typed, check_list}
use Rattle.px_meaning.specs.Weight.{weights}
use Rattle.px_check.specs.CheckedTree.{CheckedTree, typed_of}
use Rattle.px_plan.proofs.Optimizes.{checked_list, made_moves, made_reach, made_means, made_lighter, of_checked}
use Rattle.px_plan.proofs.optimizing.optimize.Goals as goal

pub rewrite_all-requires : goal.rewrite_all-requires
rewrite_all-requires g c =
    let catalog = catalog_of c.args.schema.now (all_kernels (λ b. (goal.ColumnsUdf-dyn g (b.vtable, b.value)).declared b.value) (λ b. (goal.ColumnsUdf-dyn g (b.vtable, b.value)).answer b.value) c.args.kernels.now.entries.items) in
    let checked = check_list catalog c.args.context (map tree_of c.args.exprs.now) in
    let hs = c.as_slice.result.now in
    let is : checked ≡ Ok (map typed_of hs) = c.in-Ok.ensures.answer ∙ ap (λ (z : List CheckedTree). Ok (map typed_of z)) (sym c.as_slice.ensures) in
    checked_list catalog c.args.context (map tree_of c.args.exprs.now) hs is

pub returns-clause-moves : goal.returns-clause-moves
returns-clause-moves g c =
    let catalog = catalog_of c.args.schema.now (all_kernels (λ b. (goal.ColumnsUdf-dyn g (b.vtable, b.value)).declared b.value) (λ b. (goal.ColumnsUdf-dyn g (b.vtable, b.value)).answer b.value) c.args.kernels.now.entries.items) in
    let checked = check_list catalog c.args.context (map tree_of c.args.exprs.now) in
    let hs = c.as_slice.result.now in
    let is : checked ≡ Ok (map typed_of hs) = c.in-Ok.ensures.answer ∙ ap (λ (z : List CheckedTree). Ok (map typed_of z)) (sym c.as_slice.ensures) in
    made_moves catalog c.args.context checked hs is (c.rewrite_all.new.steps - c.args.steps.now) c.rewrite_all.result c.rewrite_all.ensures.rewritten

pub returns-clause-reach : goal.returns-clause-reach
returns-clause-reach g c =
    let catalog = catalog_of c.args.schema.now (all_kernels (λ b. (goal.ColumnsUdf-dyn g (b.vtable, b.value)).declared b.value) (λ b. (goal.ColumnsUdf-dyn g (b.vtable, b.value)).answer b.value) c.args.kernels.now.entries.items) in
    let checked = check_list catalog c.args.context (map tree_of c.args.exprs.now) in
    let hs = c.as_slice.result.now in
    let is : checked ≡ Ok (map typed_of hs) = c.in-Ok.ensures.answer ∙ ap (λ (z : List CheckedTree). Ok (map typed_of z)) (sym c.as_slice.ensures) in
    made_reach catalog c.args.context checked hs is (c.rewrite_all.new.steps - c.args.steps.now) c.rewrite_all.result c.rewrite_all.ensures.rewritten

pub returns-clause-meaning : goal.returns-clause-meaning
returns-clause-meaning g c =
    let catalog = catalog_of c.args.schema.now (all_kernels (λ b. (goal.ColumnsUdf-dyn g (b.vtable, b.value)).declared b.value) (λ b. (goal.ColumnsUdf-dyn g (b.vtable, b.value)).answer b.value) c.args.kernels.now.entries.items) in
    let checked = check_list catalog c.args.context (map tree_of c.args.exprs.now) in
    let hs = c.as_slice.result.now in
    let is : checked ≡ Ok (map typed_of hs) = c.in-Ok.ensures.answer ∙ ap (λ (z : List CheckedTree). Ok (map typed_of z)) (sym c.as_slice.ensures) in
    made_means catalog c.args.context checked hs is (c.rewrite_all.new.steps - c.args.steps.now) c.rewrite_all.result c.rewrite_all.ensures.rewritten

pub returns-clause-lighter : goal.returns-clause-lighter
returns-clause-lighter g c =
    let catalog = catalog_of c.args.schema.now (all_kernels (λ b. (goal.ColumnsUdf-dyn g (b.vtable, b.value)).declared b.value) (λ b. (goal.ColumnsUdf-dyn g (b.vtable, b.value)).answer b.value) c.args.kernels.now.entries.items) in
    let checked = check_list catalog c.args.context (map tree_of c.args.exprs.now) in
    let hs = c.as_slice.result.now in
    let is : checked ≡ Ok (map typed_of hs) = c.in-Ok.ensures.answer ∙ ap (λ (z : List CheckedTree). Ok (map typed_of z)) (sym c.as_slice.ensures) in
    made_lighter catalog c.args.context checked hs is (c.rewrite_all.new.steps - c.args.steps.now) c.rewrite_all.result c.rewrite_all.ensures.rewritten

pub returns-clause-bound : goal.returns-clause-bound
returns-clause-bound g c =
    let catalog = catalog_of c.args.schema.now (all_kernels (λ b. (goal.ColumnsUdf-dyn g (b.vtable, b.value)).declared b.value) (λ b. (goal.ColumnsUdf-dyn g (b.vtable, b.value)).answer b.value) c.args.kernels.now.entries.items) in
    let checked = check_list catalog c.args.context (map tree_of c.args.exprs.now) in
    let hs = c.as_slice.result.now in
    let is : checked ≡ Ok (map typed_of hs) = c.in-Ok.ensures.answer ∙ ap (λ (z : List CheckedTree). Ok (map typed_of z)) (sym c.as_slice.ensures) in
    of_checked catalog c.args.context checked hs is (c.rewrite_all.new.steps - c.args.steps.now) (λ us. c.rewrite_all.new.steps ≤ c.args.steps.now + weights us) c.rewrite_all.ensures.bound
