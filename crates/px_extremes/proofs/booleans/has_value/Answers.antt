use Rattle.std.proofs.Common.{◌≡◌, ◌∙◌, ◌+◌, ◌≤◌, ℕ, sym, ap, arith, nat_lt, not, count_by, is_some}
use Rattle.std.proofs.lemmas.Bool.Decides.{nat_tests}
use Rattle.px_aggregates.proofs.RowCounts.{any_counted, both_counted}
use Rattle.px_extremes.proofs.booleans.has_value.Goals as goal

rest_counted : (nulls values rows : ℕ) → values + nulls ≡ rows → nat_lt nulls rows ≡ nat_lt 0 values
rest_counted nulls values rows e = grind (arith, nat_tests)

pub returns : goal.returns
returns c =
    let rows = c.args.rows.now in
    let nulls = c.zeros.ensures.count ∙ ap (count_by not) c.valid.ensures in
    rest_counted c.zeros.result (count_by is_some rows) c.len.result (omega (arith, both_counted is_some rows, nulls, c.len.ensures.rows)) ∙ sym (any_counted is_some rows)
