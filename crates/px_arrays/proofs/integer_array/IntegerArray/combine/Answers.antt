use Rattle.std.proofs.Common.{◌∙◌, sym, ap, Some}
use Rattle.px_semantics.specs.Rows.{lift}
use Rattle.px_semantics.proofs.Joins.{rows_left, rows_right}
use Rattle.px_arrays.proofs.integer_array.IntegerArray.combine.Goals as goal

pub returns-then-m-eq1 : goal.returns-then-m-eq1
returns-then-m-eq1 g c =
    record {
      rows = ap Some c.in_ok-combine_scalar_on_left.ensures
          ∙ sym (rows_left (lift g.O.Operation.meaning) c.args.self.now c.args.other.now (sym c.len-m.ensures.rows ∙ c.if-m-eq1.true));
    }

pub returns-then-n-eq1 : goal.returns-then-n-eq1
returns-then-n-eq1 g c =
    record {
      rows = ap Some c.in_ok-combine_scalar_on_right.ensures
          ∙ sym (rows_right (lift g.O.Operation.meaning) c.args.self.now c.args.other.now
          (λ e. c.if-m-n.false (c.len-m.ensures.rows ∙ e ∙ sym c.len-n.ensures.rows)) (λ e. c.if-m-eq1.false (c.len-m.ensures.rows ∙ e)) (sym c.len-n.ensures.rows ∙ c.if-n-eq1.true));
    }
