use Rattle.px_document.proofs.NoFloats.{plain_error_value}
use Rattle.px_document.proofs.report.error_value.Goals as goal

pub returns-clause-plain : goal.returns-clause-plain
returns-clause-plain c = plain_error_value c.args.error.now c.error_in.result c.error_in.ensures
