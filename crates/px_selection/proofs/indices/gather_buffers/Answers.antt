use Rattle.std.proofs.Common.{◌≡◌, ◌∙◌, ◌&&◌, not, inr, sym, ap, arith, false, true, length, map, None, ℕ}
use Rattle.std.specs.Prelude.{Ok, nat_eq}
use Rattle.std.specs.List.{list_all}
use Rattle.std.proofs.lemmas.List.{length-map}
use Rattle.std.proofs.lemmas.Result.{IfOk-weaker, err_from_is_err_and}
use Rattle.px_column.specs.ColumnOf.{type_of, rows_of}
use Rattle.px_semantics.specs.Rows.{Row}
use Rattle.px_column.specs.Buffers.{values_of}
use Rattle.px_semantics.specs.Gathers.{is_inside, row_at, gather_rows}
use Rattle.px_selection.specs.Positions.{at_positions, position_or_end}
use Rattle.px_selection.proofs.Typed.{typed, answers_each}
use Rattle.px_selection.proofs.Indexed.{gather_refused, gather_by, gather_error, gathered, taken_rows}
use Rattle.px_selection.proofs.indices.gather_buffers.Goals as goal

pub returns-then-is_no_scalar : goal.returns-then-is_no_scalar
returns-then-is_no_scalar c =
    let scalar = c.args.returns_scalar in
    record {
      rows = inr (gather_refused (values_of c.args.a.now) (values_of c.args.idx.now) scalar c.is_no_scalar.result
          (c.is_no_scalar.ensures ∙ ap (λ (k : ℕ). scalar && not (nat_eq k 1)) c.len.ensures.rows) c.if-is_no_scalar.true);
    }

pub returns-in_err-positions : goal.returns-in_err-positions
returns-in_err-positions c =
    let scalar = c.args.returns_scalar in
    let p = err_from_is_err_and c.from_residual.result c.from_residual.ensures.1 in
    rw (p.1, p.2) (record {
      rows = gather_error (values_of c.args.a.now) (values_of c.args.idx.now) scalar c.is_no_scalar.result _
          (c.is_no_scalar.ensures ∙ ap (λ (k : ℕ). scalar && not (nat_eq k 1)) c.len.ensures.rows) c.if-is_no_scalar.false
          (rw (← c.len-2.ensures.rows) c.in_err-positions.ensures.err);
    })

pub take_rows-requires : goal.take_rows-requires
take_rows-requires c =
    omega (arith, ap length (c.as_slice.ensures.value ∙ c.in_ok-positions.ensures.positions), length-map (rows_of c.args.idx.now) (position_or_end c.len-2.result), c.len.ensures.rows)

pub returns : goal.returns
returns c =
    let a = values_of c.args.a.now in
    let idx = values_of c.args.idx.now in
    let scalar = c.args.returns_scalar in
    let none : Row = None in
    let inside = rw c.len-2.ensures.rows at c.in_ok-positions.ensures.inside in
    record {
      rows = answers_each values_of c.take_rows.result (gather_rows a idx scalar)
          (IfOk-weaker c.take_rows.result _ _
          (λ r e. gather_by a idx scalar c.is_no_scalar.result (c.is_no_scalar.ensures ∙ ap (λ (k : ℕ). scalar && not (nat_eq k 1)) c.len.ensures.rows) c.if-is_no_scalar.false
          ∙ gathered a.value_type a.rows idx.rows inside ∙ ap Ok (sym e))
          (typed a.value_type (map (row_at a.rows) idx.rows) c.take_rows.result c.take_rows.ensures.value_type
          (IfOk-weaker c.take_rows.result _ _
          (λ r e. e ∙ ap (at_positions none a.rows) (c.as_slice.ensures.value ∙ c.in_ok-positions.ensures.positions) ∙ taken_rows a.rows idx.rows c.len-2.result c.len-2.ensures.rows)
          c.take_rows.ensures.rows)))
          c.take_rows.ensures.err;
    }
