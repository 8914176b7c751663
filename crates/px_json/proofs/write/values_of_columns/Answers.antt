use Rattle.px_json.proofs.RoundTrip.{all_written_plain}
use Rattle.px_json.proofs.write.values_of_columns.Goals as goal

pub returns-clause-plain : goal.returns-clause-plain
returns-clause-plain c = all_written_plain c.args.columns.now c.column_values.result c.column_values.ensures
