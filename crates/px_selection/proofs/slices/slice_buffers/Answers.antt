use Rattle.std.proofs.Common.{◌≡◌, ◌∙◌, ◌≤◌, inr, sym, ap, arith, length}
use Rattle.std.specs.Prelude.{Ok, slice_range}
use Rattle.std.proofs.lemmas.Result.{IfOk-weaker}
use Rattle.px_column.specs.Buffers.{values_of}
use Rattle.px_column.specs.ColumnOf.{type_of, rows_of}
use Rattle.px_semantics.specs.Slices.{slice_rows}
use Rattle.px_selection.proofs.Typed.{typed, answers_each}
use Rattle.px_selection.proofs.Sliced.{slice_refused, slice_given, slice_outside, single_rows, range_by}
use Rattle.px_selection.proofs.slices.slice_buffers.Goals as goal

pub returns-then-not-are_single : goal.returns-then-not-are_single
returns-then-not-are_single c =
    let xs = rows_of c.args.offset.now in
    let ys = rows_of c.args.count.now in
    let single = single_rows _ _ xs ys c.are_single.result c.len.ensures.rows c.len-2.ensures.rows c.are_single.ensures in
    record { rows = inr (slice_refused (values_of c.args.a.now) (values_of c.args.offset.now) (values_of c.args.count.now) c.are_single.result single c.if-not-are_single.true) }

pub returns-in_default : goal.returns-in_default
returns-in_default c =
    let xs = rows_of c.args.offset.now in
    let ys = rows_of c.args.count.now in
    let single = single_rows _ _ xs ys c.are_single.result c.len.ensures.rows c.len-2.ensures.rows c.are_single.ensures in
    let range = range_by _ (length (rows_of c.args.a.now)) _ _ _ _ _ c.len-3.ensures.rows c.bound_of.ensures c.bound_of-2.ensures c.in_default.ensures.range in
    record { rows = inr (slice_outside (values_of c.args.a.now) (values_of c.args.offset.now) (values_of c.args.count.now) c.are_single.result single c.if-not-are_single.false range) }

pub range_rows-requires-clause-inside : goal.range_rows-requires-clause-inside
range_rows-requires-clause-inside c = omega (arith, c.in-Some.ensures.inside.1, c.len-3.ensures.rows)

pub returns : goal.returns
returns c =
    let a = values_of c.args.a.now in
    let xs = rows_of c.args.offset.now in
    let ys = rows_of c.args.count.now in
    let s = c.in-Some.start in
    let e = c.in-Some.end in
    let single = single_rows _ _ xs ys c.are_single.result c.len.ensures.rows c.len-2.ensures.rows c.are_single.ensures in
    let range = range_by _ (length a.rows) _ _ _ _ _ c.len-3.ensures.rows c.bound_of.ensures c.bound_of-2.ensures c.in-Some.ensures.range in
    let rows = typed a.value_type (slice_range a.rows s e) c.range_rows.result c.range_rows.ensures.value_type c.range_rows.ensures.rows in
    record {
      rows = answers_each values_of c.range_rows.result (slice_rows a (values_of c.args.offset.now) (values_of c.args.count.now))
          (IfOk-weaker c.range_rows.result _ _
          (λ r h. slice_given a (values_of c.args.offset.now) (values_of c.args.count.now) c.are_single.result (s, e) single c.if-not-are_single.false range ∙ ap Ok (sym h))
          rows)
          c.range_rows.ensures.err;
    }
