use Rattle.std.proofs.Common.{refl}
use Rattle.px_expr.specs.Kernel.{all_kernels}
use Rattle.px_rules.specs.Plan.{places}
use Rattle.px_eval.specs.Own.{frame_catalog}
use Rattle.px_eval.proofs.Lists.{is_some_of}
use Rattle.px_eval.proofs.Columns.{checked_at, denoted_trees, list_error, complete_error, evaluated_ok, evaluated_err, evaluated_complete}
use Rattle.px_base.proofs.Answers.{given_ok, given_err}
use Rattle.px_base.specs.declared.error.PlanError.TheVariants.{ShapeMismatch}
use Rattle.px_eval.proofs.evaluation.evaluate_in.Goals as goal

pub fill_all-requires-clause-checked : goal.fill_all-requires-clause-checked
fill_all-requires-clause-checked g c =
    let kernels = all_kernels (λ b. (goal.ColumnsUdf-dyn g (b.vtable, b.value)).declared b.value) (λ b. (goal.ColumnsUdf-dyn g (b.vtable, b.value)).answer b.value) c.args.kernels.now.entries.items in
    checked_at (frame_catalog kernels c.args.frame.now) c.args.arena.now (places c.args.roots.now) c.requires

pub answers_of-requires-clause-denote : goal.answers_of-requires-clause-denote
answers_of-requires-clause-denote g c =
    let kernels = all_kernels (λ b. (goal.ColumnsUdf-dyn g (b.vtable, b.value)).declared b.value) (λ b. (goal.ColumnsUdf-dyn g (b.vtable, b.value)).answer b.value) c.args.kernels.now.entries.items in
    denoted_trees (frame_catalog kernels c.args.frame.now) c.args.arena.now c.args.roots.now c.requires

pub answers_of-requires-clause-filled : goal.answers_of-requires-clause-filled
answers_of-requires-clause-filled g c = λ n i. let (v, e, m) = c.in-Ok.ensures.means n i in is_some_of _ v e

pub returns-in-Err-clause-err : goal.returns-in-Err-clause-err
returns-in-Err-clause-err g c =
    let kernels = all_kernels (λ b. (goal.ColumnsUdf-dyn g (b.vtable, b.value)).declared b.value) (λ b. (goal.ColumnsUdf-dyn g (b.vtable, b.value)).answer b.value) c.args.kernels.now.entries.items in
    λ ts d. list_error kernels c.args.frame.now c.args.arena.now c.in-Err.e c.args.roots.now ts c.in-Err.ensures.err d

pub returns-in-Err-clause-complete : goal.returns-in-Err-clause-complete
returns-in-Err-clause-complete g c =
    let kernels = all_kernels (λ b. (goal.ColumnsUdf-dyn g (b.vtable, b.value)).declared b.value) (λ b. (goal.ColumnsUdf-dyn g (b.vtable, b.value)).answer b.value) c.args.kernels.now.entries.items in
    λ ts d some. complete_error kernels c.args.frame.now (frame_catalog kernels c.args.frame.now) c.args.arena.now c.args.roots.now c.args.context ts c.in-Err.e refl
    (record { frame = c.columns-columns.ensures.frame; same = refl }) c.requires d some c.in-Err.ensures.err

pub returns-clause-columns : goal.returns-clause-columns
returns-clause-columns g c =
    let kernels = all_kernels (λ b. (goal.ColumnsUdf-dyn g (b.vtable, b.value)).declared b.value) (λ b. (goal.ColumnsUdf-dyn g (b.vtable, b.value)).answer b.value) c.args.kernels.now.entries.items in
    evaluated_ok kernels c.args.frame.now c.args.arena.now c.args.context c.args.roots.now c.in-Ok.table c.in-Ok-answers_of.answers.items c.line_up.result
    (record { holds = c.in-Ok.ensures.means; rows = c.in-Ok-answers_of.ensures.rows; names = c.in-Ok-answers_of.ensures.names }) (given_ok ShapeMismatch (λ l. l.entries) c.line_up.result _ c.line_up.ensures.answer)

pub returns-clause-err : goal.returns-clause-err
returns-clause-err g c =
    let kernels = all_kernels (λ b. (goal.ColumnsUdf-dyn g (b.vtable, b.value)).declared b.value) (λ b. (goal.ColumnsUdf-dyn g (b.vtable, b.value)).answer b.value) c.args.kernels.now.entries.items in
    evaluated_err kernels c.args.frame.now c.args.arena.now c.args.context c.args.roots.now c.in-Ok.table c.in-Ok-answers_of.answers.items c.line_up.result
    (record { holds = c.in-Ok.ensures.means; rows = c.in-Ok-answers_of.ensures.rows; names = c.in-Ok-answers_of.ensures.names }) (given_err ShapeMismatch (λ l. l.entries) c.line_up.result _ c.line_up.ensures.answer)

pub returns-clause-complete : goal.returns-clause-complete
returns-clause-complete g c =
    let kernels = all_kernels (λ b. (goal.ColumnsUdf-dyn g (b.vtable, b.value)).declared b.value) (λ b. (goal.ColumnsUdf-dyn g (b.vtable, b.value)).answer b.value) c.args.kernels.now.entries.items in
    evaluated_complete kernels c.args.frame.now c.args.arena.now c.args.context c.args.roots.now c.in-Ok.table c.in-Ok-answers_of.answers.items c.line_up.result
    (record { holds = c.in-Ok.ensures.means; rows = c.in-Ok-answers_of.ensures.rows; names = c.in-Ok-answers_of.ensures.names }) (given_err ShapeMismatch (λ l. l.entries) c.line_up.result _ c.line_up.ensures.answer)
