use Rattle.std.proofs.Common.{◌∙◌, inr, sym, refl, length}
use Rattle.px_semantics.specs.Comparisons.{compare_row}
use Rattle.px_column.specs.ColumnOf.{rows_of}
use Rattle.px_semantics.proofs.Joining.{broadcasts_to}
use Rattle.px_column.specs.Buffers.{values_of}
use Rattle.px_kernels.proofs.KernelRows.{compare_gives, compare_none}
use Rattle.px_kernels.proofs.BroadcastRows.{two_wide, wide_rows, no_rows}
use Rattle.px_kernels.proofs.comparison.compare_buffers.Goals as goal

pub returns-in_default : goal.returns-in_default
returns-in_default c =
    let p = rw (c.len.ensures.rows, c.len-2.ensures.rows) at (sym c.join_lengths.ensures ∙ c.in_default.is) in
    record {
      rows = inr (refl, compare_none c.args.op (values_of c.args.a.now) (values_of c.args.b.now) (no_rows (compare_row c.args.op) (rows_of c.args.a.now) (rows_of c.args.b.now) p));
    }

pub broadcast-requires : goal.broadcast-requires
broadcast-requires c =
    let p = rw (c.len.ensures.rows, c.len-2.ensures.rows) at (sym c.join_lengths.ensures ∙ c.in-Some.is) in
    let j = broadcasts_to (length (rows_of c.args.a.now)) (length (rows_of c.args.b.now)) c.in-Some.len p in j.0

pub broadcast-requires-2 : goal.broadcast-requires-2
broadcast-requires-2 c =
    let p = rw (c.len.ensures.rows, c.len-2.ensures.rows) at (sym c.join_lengths.ensures ∙ c.in-Some.is) in
    let j = broadcasts_to (length (rows_of c.args.a.now)) (length (rows_of c.args.b.now)) c.in-Some.len p in j.1

pub elementwise_values-requires-clause-same : goal.elementwise_values-requires-clause-same
elementwise_values-requires-clause-same c = rw (c.wide_or.ensures, c.wide_or-2.ensures) (c.in_ok-first.ensures.value_type ∙ c.requires.same ∙ sym c.in_ok-second.ensures.value_type)

pub elementwise_values-requires-clause-same_length : goal.elementwise_values-requires-clause-same_length
elementwise_values-requires-clause-same_length c =
    let p = rw (c.len.ensures.rows, c.len-2.ensures.rows) at (sym c.join_lengths.ensures ∙ c.in-Some.is) in
    let j = broadcasts_to (length (rows_of c.args.a.now)) (length (rows_of c.args.b.now)) c.in-Some.len p in
    rw (c.wide_or.ensures, c.wide_or-2.ensures, c.in_ok-first.ensures.rows, c.in_ok-second.ensures.rows) (two_wide (rows_of c.args.a.now) (rows_of c.args.b.now) c.in-Some.len j.0 j.1)

pub returns : goal.returns
returns c =
    let p = rw (c.len.ensures.rows, c.len-2.ensures.rows) at (sym c.join_lengths.ensures ∙ c.in-Some.is) in
    let e = rw (c.wide_or.ensures, c.wide_or-2.ensures) at c.in_ok-rows.ensures in
    record {
      rows = compare_gives c.args.op (values_of c.args.a.now) (values_of c.args.b.now) c.in_ok-rows.rows
          (wide_rows (compare_row c.args.op) (rows_of c.args.a.now) (rows_of c.args.b.now) _ _ c.in_ok-rows.rows c.in-Some.len p c.in_ok-first.ensures.rows c.in_ok-second.ensures.rows e);
    }
