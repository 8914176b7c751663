use Rattle.std.proofs.Common.{◌≡◌, ◌≢◌, ◌∙◌, inr, refl, sym, ap, arith, false, get_or, length, Some, List, Bool}
use Rattle.std.specs.List.{items_where_true}
use Rattle.std.proofs.lemmas.List.{length-map}
use Rattle.std.proofs.lemmas.Result.{IfOk-weaker}
use Rattle.px_base.proofs.Answers.{gives_each}
use Rattle.px_base.specs.declared.error.PlanError.TheVariants.{ShapeMismatch}
use Rattle.px_semantics.specs.Logic.{is_true}
use Rattle.px_column.specs.ColumnOf.{rows_of}
use Rattle.px_semantics.specs.Filters.{masked_rows}
use Rattle.px_selection.proofs.Masked.{masked_same, masked_one, masked_scalar, masked_none}
use Rattle.px_selection.proofs.masks.rows_by_mask.Goals as goal

pub rows_where_set-requires : goal.rows_where_set-requires
rows_where_set-requires c = omega (arith, ap length c.truth-flags.ensures, length-map c.args.mask.now is_true, c.len-m.ensures.rows, c.len-n.ensures.rows)

pub get-requires : goal.get-requires
get-requires c = omega (arith, ap length c.truth-flags.ensures, length-map c.args.mask.now is_true, c.len-n.ensures.rows)

pub returns-then-m-n-clause-rows : goal.returns-then-m-n-clause-rows
returns-then-m-n-clause-rows c =
    let mask = c.args.mask.now in
    let rows = rows_of c.args.a.now in
    let same : length rows ≡ length mask = omega (arith, c.len-m.ensures.rows, c.len-n.ensures.rows) in
    gives_each ShapeMismatch rows_of c.rows_where_set.result (masked_rows mask rows)
    (IfOk-weaker c.rows_where_set.result _ _ (λ r e. ap Some (e ∙ ap (λ (l : List Bool). items_where_true l rows) c.truth-flags.ensures) ∙ masked_same mask rows same) c.rows_where_set.ensures.rows)
    c.rows_where_set.ensures.err

pub returns-then-n-eq1-clause-rows : goal.returns-then-n-eq1-clause-rows
returns-then-n-eq1-clause-rows c =
    let mask = c.args.mask.now in
    let rows = rows_of c.args.a.now in
    let one : length mask ≡ 1 = omega (arith, c.len-n.ensures.rows) in
    let other : length rows ≢ length mask = λ h. omega (arith, h, c.len-m.ensures.rows, c.len-n.ensures.rows) in
    gives_each ShapeMismatch rows_of c.all_or_none.result (masked_rows mask rows)
    (IfOk-weaker c.all_or_none.result _ _
    (λ r e. ap Some e ∙ masked_one mask rows c.get.result other one (c.get.ensures ∙ ap (λ (l : List Bool). get_or l 0 false) c.truth-flags.ensures))
    c.all_or_none.ensures.rows)
    c.all_or_none.ensures.err

pub returns-then-m-eq1-clause-rows : goal.returns-then-m-eq1-clause-rows
returns-then-m-eq1-clause-rows c =
    let mask = c.args.mask.now in
    let rows = rows_of c.args.a.now in
    let one : length rows ≡ 1 = omega (arith, c.len-m.ensures.rows) in
    gives_each ShapeMismatch rows_of c.row_where_set.result (masked_rows mask rows)
    (IfOk-weaker c.row_where_set.result _ _ (λ r e. ap Some e ∙ masked_scalar mask rows c.truth-flags.result.now one c.truth-flags.ensures) c.row_where_set.ensures.rows)
    c.row_where_set.ensures.err

pub returns-clause-rows : goal.returns-clause-rows
returns-clause-rows c =
    let mask = c.args.mask.now in
    let rows = rows_of c.args.a.now in
    inr (refl, masked_none mask rows (λ h. omega (arith, h, c.len-m.ensures.rows, c.len-n.ensures.rows)) (λ h. omega (arith, h, c.len-m.ensures.rows)) (λ h. omega (arith, h, c.len-n.ensures.rows)))
