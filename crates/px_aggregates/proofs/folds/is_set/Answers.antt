use Rattle.px_aggregates.proofs.SetNumbers.{bit_tested}
use Rattle.px_aggregates.proofs.folds.is_set.Goals as goal

pub returns : goal.returns
returns c = bit_tested c.args.word c.args.i c.requires
