use Rattle.std.proofs.Common.{◌∙◌, inr, sym, refl, ap, Some, length}
use Rattle.std.proofs.lemmas.Result.{IfOk-weaker}
use Rattle.px_semantics.specs.Selections.{select_all}
use Rattle.px_semantics.specs.Rows.{stretch}
use Rattle.px_column.specs.ColumnOf.{rows_of}
use Rattle.px_column.specs.Buffers.{values_of}
use Rattle.px_kernels.proofs.SelectionRows.{choice_gives, choice_none}
use Rattle.px_kernels.proofs.KernelRows.{typed}
use Rattle.px_kernels.proofs.BroadcastRows.{joins_three, two_wide}
use Rattle.px_base.proofs.Answers.{gives_each}
use Rattle.px_base.specs.declared.error.PlanError.TheVariants.{ShapeMismatch}
use Rattle.px_kernels.proofs.selection.zip_with_buffers.Goals as goal

pub returns-in_default : goal.returns-in_default
returns-in_default c =
    let p = rw (c.len.ensures.rows, c.len-2.ensures.rows, c.len-3.ensures.rows) at (sym c.join_three_lengths.ensures ∙ c.in_default.is) in
    record {
      rows = inr (refl, choice_none (values_of c.args.mask.now) (values_of c.args.a.now) (values_of c.args.b.now) p);
    }

pub broadcast-requires : goal.broadcast-requires
broadcast-requires c =
    let p = rw (c.len.ensures.rows, c.len-2.ensures.rows, c.len-3.ensures.rows) at (sym c.join_three_lengths.ensures ∙ c.in-Some.is) in
    let j = joins_three (length (rows_of c.args.mask.now)) (length (rows_of c.args.a.now)) (length (rows_of c.args.b.now)) c.in-Some.len p in j.0

pub broadcast-requires-2 : goal.broadcast-requires-2
broadcast-requires-2 c =
    let p = rw (c.len.ensures.rows, c.len-2.ensures.rows, c.len-3.ensures.rows) at (sym c.join_three_lengths.ensures ∙ c.in-Some.is) in
    let j = joins_three (length (rows_of c.args.mask.now)) (length (rows_of c.args.a.now)) (length (rows_of c.args.b.now)) c.in-Some.len p in j.1.0

pub broadcast-requires-3 : goal.broadcast-requires-3
broadcast-requires-3 c =
    let p = rw (c.len.ensures.rows, c.len-2.ensures.rows, c.len-3.ensures.rows) at (sym c.join_three_lengths.ensures ∙ c.in-Some.is) in
    let j = joins_three (length (rows_of c.args.mask.now)) (length (rows_of c.args.a.now)) (length (rows_of c.args.b.now)) c.in-Some.len p in j.1.1

pub selected_by_mask-requires-clause-boolean : goal.selected_by_mask-requires-clause-boolean
selected_by_mask-requires-clause-boolean c = rw (c.wide_or.ensures, c.in_ok-flags.ensures.value_type) c.requires.mask

pub selected_by_mask-requires-clause-same : goal.selected_by_mask-requires-clause-same
selected_by_mask-requires-clause-same c = rw (c.wide_or-2.ensures, c.wide_or-3.ensures) (c.in_ok-first.ensures.value_type ∙ c.requires.same ∙ sym c.in_ok-second.ensures.value_type)

pub selected_by_mask-requires-clause-mask : goal.selected_by_mask-requires-clause-mask
selected_by_mask-requires-clause-mask c =
    let p = rw (c.len.ensures.rows, c.len-2.ensures.rows, c.len-3.ensures.rows) at (sym c.join_three_lengths.ensures ∙ c.in-Some.is) in
    let j = joins_three (length (rows_of c.args.mask.now)) (length (rows_of c.args.a.now)) (length (rows_of c.args.b.now)) c.in-Some.len p in
    rw (c.wide_or.ensures, c.wide_or-2.ensures, c.in_ok-flags.ensures.rows, c.in_ok-first.ensures.rows) (two_wide (rows_of c.args.mask.now) (rows_of c.args.a.now) c.in-Some.len j.0 j.1.0)

pub selected_by_mask-requires-clause-same_length : goal.selected_by_mask-requires-clause-same_length
selected_by_mask-requires-clause-same_length c =
    let p = rw (c.len.ensures.rows, c.len-2.ensures.rows, c.len-3.ensures.rows) at (sym c.join_three_lengths.ensures ∙ c.in-Some.is) in
    let j = joins_three (length (rows_of c.args.mask.now)) (length (rows_of c.args.a.now)) (length (rows_of c.args.b.now)) c.in-Some.len p in
    rw (c.wide_or-2.ensures, c.wide_or-3.ensures, c.in_ok-first.ensures.rows, c.in_ok-second.ensures.rows) (two_wide (rows_of c.args.a.now) (rows_of c.args.b.now) c.in-Some.len j.1.0 j.1.1)

pub returns : goal.returns
returns c =
    let mask = values_of c.args.mask.now in
    let a = values_of c.args.a.now in
    let b = values_of c.args.b.now in
    let n = c.in-Some.len in
    let p = rw (c.len.ensures.rows, c.len-2.ensures.rows, c.len-3.ensures.rows) at (sym c.join_three_lengths.ensures ∙ c.in-Some.is) in
    let value_type = rw (c.wide_or-2.ensures, c.in_ok-first.ensures.value_type) at c.selected_by_mask.ensures.value_type in
    let rows = rw (c.wide_or.ensures, c.wide_or-2.ensures, c.wide_or-3.ensures, c.in_ok-flags.ensures.rows, c.in_ok-first.ensures.rows, c.in_ok-second.ensures.rows) at c.selected_by_mask.ensures.rows in
    record {
      rows = gives_each ShapeMismatch values_of c.selected_by_mask.result _
          (IfOk-weaker c.selected_by_mask.result _ _ (λ r e. ap Some e ∙ choice_gives mask a b n p)
          (typed a.value_type (select_all (stretch n mask.rows) (stretch n a.rows) (stretch n b.rows)) c.selected_by_mask.result value_type rows))
          c.selected_by_mask.ensures.err;
    }
