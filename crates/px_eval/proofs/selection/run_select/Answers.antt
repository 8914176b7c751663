use Rattle.std.proofs.Common.{◌-◌, ◌≤◌, List, map, refl, subst, arith}
use Rattle.std.specs.Prelude.{IsOk}
use Rattle.px_types.specs.declared.dtype.Field.{Field}
use Rattle.px_expr.specs.Kernel.{all_kernels}
use Rattle.px_expr.specs.Plan.{catalog_of}
use Rattle.px_expr.specs.Tree.{Trees, trees, tree_of}
use Rattle.px_meaning.specs.Check.{check_list}
use Rattle.px_meaning.specs.Rewrites.{IsRewrite}
use Rattle.px_meaning.specs.Rewriting.{Pairwise, AllReach, AreNormal, Moves}
use Rattle.px_meaning.specs.Schema.{Fits, schema_of}
use Rattle.px_rules.specs.Plan.{MeansTheSame}
use Rattle.px_plan.specs.Optimized.{RootsDenote, FromChecked}
use Rattle.px_eval.specs.Own.{frame_catalog}
use Rattle.px_eval.specs.Selected.{answered}
use Rattle.px_eval.proofs.Selects.{checked_roots, answer_columns, answer_error, answer_complete, answer_reach, answer_meaning, answer_counted, when_ok, both_ok, when_err, on_ok}
use Rattle.px_eval.proofs.selection.run_select.Goals as goal

pub collect-requires : goal.collect-requires
collect-requires g c =
    let kernels = all_kernels (λ b. (goal.ColumnsUdf-dyn g (b.vtable, b.value)).declared b.value) (λ b. (goal.ColumnsUdf-dyn g (b.vtable, b.value)).answer b.value) c.args.kernels.now.entries.items in
    let frame = c.args.frame.now in
    let catalog = frame_catalog kernels frame in
    let exprs = map tree_of c.args.exprs.now in
    let o = c.in-Ok.optimized in
    let s = c.schema.ensures.fields in
    let fits : Fits frame (schema_of frame) = record { frame = c.schema.ensures.frame; same = refl } in
    let checked : IsOk (check_list catalog c.args.context exprs) = subst (λ (z : List Field). IsOk (check_list (catalog_of z kernels) c.args.context exprs)) s c.in-Ok.ensures.checked in
    let meaning = subst (λ (z : List Field). FromChecked (check_list (catalog_of z kernels) c.args.context exprs) (Pairwise (MeansTheSame (catalog_of z kernels) c.args.context)) o) s c.in-Ok.ensures.meaning in
    checked_roots catalog c.args.context exprs o checked c.in-Ok.ensures.denote meaning

pub returns-clause-checked : goal.returns-clause-checked
returns-clause-checked g c =
    let kernels = all_kernels (λ b. (goal.ColumnsUdf-dyn g (b.vtable, b.value)).declared b.value) (λ b. (goal.ColumnsUdf-dyn g (b.vtable, b.value)).answer b.value) c.args.kernels.now.entries.items in
    let frame = c.args.frame.now in
    let catalog = frame_catalog kernels frame in
    let exprs = map tree_of c.args.exprs.now in
    let o = c.in-Ok.optimized in
    let s = c.schema.ensures.fields in
    let fits : Fits frame (schema_of frame) = record { frame = c.schema.ensures.frame; same = refl } in
    let checked : IsOk (check_list catalog c.args.context exprs) = subst (λ (z : List Field). IsOk (check_list (catalog_of z kernels) c.args.context exprs)) s c.in-Ok.ensures.checked in
    on_ok c.collect.result _ checked

pub returns-clause-columns : goal.returns-clause-columns
returns-clause-columns g c =
    let kernels = all_kernels (λ b. (goal.ColumnsUdf-dyn g (b.vtable, b.value)).declared b.value) (λ b. (goal.ColumnsUdf-dyn g (b.vtable, b.value)).answer b.value) c.args.kernels.now.entries.items in
    let frame = c.args.frame.now in
    let catalog = frame_catalog kernels frame in
    let exprs = map tree_of c.args.exprs.now in
    let o = c.in-Ok.optimized in
    let s = c.schema.ensures.fields in
    let fits : Fits frame (schema_of frame) = record { frame = c.schema.ensures.frame; same = refl } in
    let reach = subst (λ (z : List Field). FromChecked (check_list (catalog_of z kernels) c.args.context exprs) (AllReach (IsRewrite (catalog_of z kernels) c.args.context)) o) s c.in-Ok.ensures.reach in
    when_ok c.collect.result _ _ (both_ok c.collect.result _ _ c.collect.ensures.trees c.collect.ensures.columns) (λ a h. answer_columns catalog c.args.context exprs o frame fits a reach h.0 h.1)

pub returns-clause-reach : goal.returns-clause-reach
returns-clause-reach g c =
    let kernels = all_kernels (λ b. (goal.ColumnsUdf-dyn g (b.vtable, b.value)).declared b.value) (λ b. (goal.ColumnsUdf-dyn g (b.vtable, b.value)).answer b.value) c.args.kernels.now.entries.items in
    let frame = c.args.frame.now in
    let catalog = frame_catalog kernels frame in
    let exprs = map tree_of c.args.exprs.now in
    let o = c.in-Ok.optimized in
    let s = c.schema.ensures.fields in
    let fits : Fits frame (schema_of frame) = record { frame = c.schema.ensures.frame; same = refl } in
    let reach = subst (λ (z : List Field). FromChecked (check_list (catalog_of z kernels) c.args.context exprs) (AllReach (IsRewrite (catalog_of z kernels) c.args.context)) o) s c.in-Ok.ensures.reach in
    when_ok c.collect.result _ _ c.collect.ensures.trees (λ a h. answer_reach catalog c.args.context exprs o a reach h)

pub returns-clause-normal : goal.returns-clause-normal
returns-clause-normal g c =
    let kernels = all_kernels (λ b. (goal.ColumnsUdf-dyn g (b.vtable, b.value)).declared b.value) (λ b. (goal.ColumnsUdf-dyn g (b.vtable, b.value)).answer b.value) c.args.kernels.now.entries.items in
    let frame = c.args.frame.now in
    let catalog = frame_catalog kernels frame in
    let exprs = map tree_of c.args.exprs.now in
    let o = c.in-Ok.optimized in
    let s = c.schema.ensures.fields in
    let fits : Fits frame (schema_of frame) = record { frame = c.schema.ensures.frame; same = refl } in
    let normal = subst (λ (z : List Field). (us : Trees) → RootsDenote o us → AreNormal (IsRewrite (catalog_of z kernels) c.args.context) us) s c.in-Ok.ensures.normal in
    when_ok c.collect.result _ _ c.collect.ensures.trees (λ a h. normal (trees (answered a)) h)

pub returns-clause-meaning : goal.returns-clause-meaning
returns-clause-meaning g c =
    let kernels = all_kernels (λ b. (goal.ColumnsUdf-dyn g (b.vtable, b.value)).declared b.value) (λ b. (goal.ColumnsUdf-dyn g (b.vtable, b.value)).answer b.value) c.args.kernels.now.entries.items in
    let frame = c.args.frame.now in
    let catalog = frame_catalog kernels frame in
    let exprs = map tree_of c.args.exprs.now in
    let o = c.in-Ok.optimized in
    let s = c.schema.ensures.fields in
    let fits : Fits frame (schema_of frame) = record { frame = c.schema.ensures.frame; same = refl } in
    let meaning = subst (λ (z : List Field). FromChecked (check_list (catalog_of z kernels) c.args.context exprs) (Pairwise (MeansTheSame (catalog_of z kernels) c.args.context)) o) s c.in-Ok.ensures.meaning in
    when_ok c.collect.result _ _ c.collect.ensures.trees (λ a h. answer_meaning catalog c.args.context exprs o a meaning h)

pub returns-clause-rewrites : goal.returns-clause-rewrites
returns-clause-rewrites g c =
    let kernels = all_kernels (λ b. (goal.ColumnsUdf-dyn g (b.vtable, b.value)).declared b.value) (λ b. (goal.ColumnsUdf-dyn g (b.vtable, b.value)).answer b.value) c.args.kernels.now.entries.items in
    let frame = c.args.frame.now in
    let catalog = frame_catalog kernels frame in
    let exprs = map tree_of c.args.exprs.now in
    let o = c.in-Ok.optimized in
    let s = c.schema.ensures.fields in
    let fits : Fits frame (schema_of frame) = record { frame = c.schema.ensures.frame; same = refl } in
    let moves = subst (λ (z : List Field). FromChecked (check_list (catalog_of z kernels) c.args.context exprs) (λ ts us. Moves (IsRewrite (catalog_of z kernels) c.args.context) ts us (c.optimize.new.steps - c.args.steps.now)) o) s c.in-Ok.ensures.moves in
    when_ok c.collect.result _ _ (both_ok c.collect.result _ _ c.collect.ensures.trees c.collect.ensures.rewrites)
    (λ a h. answer_counted catalog c.args.context exprs o a c.args.steps.now c.optimize.new.steps c.collect.new.steps moves h.0 c.in-Ok.ensures.count h.1 c.in-Ok.ensures.ticks c.collect.ensures.ticks)

pub returns-clause-ticks : goal.returns-clause-ticks
returns-clause-ticks g c =
    let kernels = all_kernels (λ b. (goal.ColumnsUdf-dyn g (b.vtable, b.value)).declared b.value) (λ b. (goal.ColumnsUdf-dyn g (b.vtable, b.value)).answer b.value) c.args.kernels.now.entries.items in
    let frame = c.args.frame.now in
    let catalog = frame_catalog kernels frame in
    let exprs = map tree_of c.args.exprs.now in
    let o = c.in-Ok.optimized in
    let s = c.schema.ensures.fields in
    let fits : Fits frame (schema_of frame) = record { frame = c.schema.ensures.frame; same = refl } in
    let a : c.args.steps.now ≤ c.optimize.new.steps = c.in-Ok.ensures.ticks in
    let b : c.optimize.new.steps ≤ c.collect.new.steps = c.collect.ensures.ticks.least in
    omega arith

pub returns-clause-err : goal.returns-clause-err
returns-clause-err g c =
    let kernels = all_kernels (λ b. (goal.ColumnsUdf-dyn g (b.vtable, b.value)).declared b.value) (λ b. (goal.ColumnsUdf-dyn g (b.vtable, b.value)).answer b.value) c.args.kernels.now.entries.items in
    let frame = c.args.frame.now in
    let catalog = frame_catalog kernels frame in
    let exprs = map tree_of c.args.exprs.now in
    let o = c.in-Ok.optimized in
    let s = c.schema.ensures.fields in
    let fits : Fits frame (schema_of frame) = record { frame = c.schema.ensures.frame; same = refl } in
    let checked : IsOk (check_list catalog c.args.context exprs) = subst (λ (z : List Field). IsOk (check_list (catalog_of z kernels) c.args.context exprs)) s c.in-Ok.ensures.checked in
    let meaning = subst (λ (z : List Field). FromChecked (check_list (catalog_of z kernels) c.args.context exprs) (Pairwise (MeansTheSame (catalog_of z kernels) c.args.context)) o) s c.in-Ok.ensures.meaning in
    when_err c.collect.result _ _ c.collect.ensures.err (λ e h. answer_error catalog c.args.context exprs o frame fits e checked c.in-Ok.ensures.denote meaning h)

pub returns-clause-complete : goal.returns-clause-complete
returns-clause-complete g c =
    let kernels = all_kernels (λ b. (goal.ColumnsUdf-dyn g (b.vtable, b.value)).declared b.value) (λ b. (goal.ColumnsUdf-dyn g (b.vtable, b.value)).answer b.value) c.args.kernels.now.entries.items in
    let frame = c.args.frame.now in
    let catalog = frame_catalog kernels frame in
    let exprs = map tree_of c.args.exprs.now in
    let o = c.in-Ok.optimized in
    let s = c.schema.ensures.fields in
    let fits : Fits frame (schema_of frame) = record { frame = c.schema.ensures.frame; same = refl } in
    let reach = subst (λ (z : List Field). FromChecked (check_list (catalog_of z kernels) c.args.context exprs) (AllReach (IsRewrite (catalog_of z kernels) c.args.context)) o) s c.in-Ok.ensures.reach in
    answer_complete catalog c.args.context exprs o frame fits _ c.in-Ok.ensures.denote reach c.collect.ensures.complete
