use Rattle.std.proofs.Common.{◌∙◌, sym, ap, map, Some}
use Rattle.px_semantics.specs.Logic.{boolean_logic_row}
use Rattle.px_semantics.specs.Rows.{boolean_row}
use Rattle.px_semantics.proofs.Joins.{rows_left, rows_right}
use Rattle.px_arrays.proofs.BooleanRows.{rows_swapped}
use Rattle.px_arrays.proofs.boolean_array.BooleanArray.logic.Goals as goal

pub returns-then-m-eq1 : goal.returns-then-m-eq1
returns-then-m-eq1 c =
    let xs = c.args.self.now in
    let ys = c.args.other.now in
    let f = boolean_logic_row c.args.op in
    record {
      rows = ap Some (c.in_ok-logic_scalar.ensures ∙ rows_swapped c.args.op c.requires (boolean_row c.get.result) ys ∙ ap (λ x. map (f x) ys) c.get.ensures)
          ∙ sym (rows_left f xs ys (sym c.len-m.ensures.rows ∙ c.if-m-eq1.true));
    }

pub returns-then-n-eq1 : goal.returns-then-n-eq1
returns-then-n-eq1 c =
    let xs = c.args.self.now in
    let ys = c.args.other.now in
    let f = boolean_logic_row c.args.op in
    record {
      rows = ap Some (c.in_ok-logic_scalar-2.ensures ∙ ap (λ y. map (λ x. f x y) xs) c.get-then-n-eq1.ensures)
          ∙ sym (rows_right f xs ys (λ e. c.if-m-n.false (c.len-m.ensures.rows ∙ e ∙ sym c.len-n.ensures.rows)) (λ e. c.if-m-eq1.false (c.len-m.ensures.rows ∙ e)) (sym c.len-n.ensures.rows ∙ c.if-n-eq1.true));
    }
