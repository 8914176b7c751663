use Rattle.std.proofs.Common.{◌≡◌, ◌∙◌, ◌+◌, ◌<◌, ◌^◌, ◌++◌, inr, refl, sym, ap, arith, length, Some}
use Rattle.std.proofs.lemmas.Result.{IfOk-weaker}
use Rattle.px_base.proofs.Answers.{gives_each}
use Rattle.px_base.specs.declared.error.PlanError.TheVariants.{TooLong}
use Rattle.px_column.specs.ColumnOf.{type_of, rows_of}
use Rattle.px_column.specs.Buffers.{values_of}
use Rattle.px_semantics.specs.Slices.{append_rows}
use Rattle.px_selection.proofs.Typed.{typed}
use Rattle.px_selection.proofs.Appended.{append_gives, append_none}
use Rattle.px_selection.proofs.concatenation.append_buffers.Goals as goal

pub returns-in_default : goal.returns-in_default
returns-in_default c =
    let a = values_of c.args.a.now in
    let b = values_of c.args.b.now in
    record { rows = inr (refl, append_none a b (omega (arith, c.in_default.ensures.none, c.len.ensures.rows, c.len-2.ensures.rows))) }

pub appended_rows-requires-clause-sum : goal.appended_rows-requires-clause-sum
appended_rows-requires-clause-sum c = omega (arith, c.in-Some.ensures.some.0, c.len.ensures.rows, c.len-2.ensures.rows)

pub returns : goal.returns
returns c =
    let a = values_of c.args.a.now in
    let b = values_of c.args.b.now in
    let below : length a.rows + length b.rows < 2 ^ 32 = omega (arith, c.in-Some.ensures.some.0, c.in-Some.ensures.some.1, c.len.ensures.rows, c.len-2.ensures.rows) in
    record {
      rows = gives_each TooLong values_of c.appended_rows.result (append_rows a b)
          (IfOk-weaker c.appended_rows.result _ _ (λ r e. ap Some e ∙ append_gives a b below)
          (typed a.value_type (a.rows ++ b.rows) c.appended_rows.result c.appended_rows.ensures.value_type c.appended_rows.ensures.rows))
          c.appended_rows.ensures.err;
    }
