use Rattle.std.proofs.Common.{rules, Fits, w32}
use Rattle.std.proofs.Math.Facts.{Fits-lt-pow}
use Rattle.px_json.proofs.RoundTrip.{written_again, written_plain}
use Rattle.px_json.proofs.write.value_of_column.Goals as goal

pub returns-clause-plain : goal.returns-clause-plain
returns-clause-plain c = written_plain c.args.column.now c.column_value.result c.column_value.ensures

pub returns-clause-again : goal.returns-clause-again
returns-clause-again c =
    let small : Fits w32 c.len-len.result = search rules in
    written_again c.args.column.now c.column_value.result
    (record { below_limit = rw (← c.len-len.ensures.rows) (Fits-lt-pow small); typed = c.len-len.ensures.typed }) c.column_value.ensures
