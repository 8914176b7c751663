use Rattle.std.proofs.Common.{refl}
use Rattle.px_types.specs.declared.dtype.DataType.{out-DataType}
use Rattle.px_types.specs.ValueTypes.{common, common_dtype, holds, default_type}
use Rattle.px_meaning.specs.Signatures.{united}
use Rattle.px_meaning.proofs.laws.literals_unite_with_their_neighbours.Goals as goal

pub returns-clause-wider : goal.returns-clause-wider
unfolding united holds default_type common common_dtype out-DataType denote.Hole.Carrier.out
returns-clause-wider g = refl

pub returns-clause-none : goal.returns-clause-none
unfolding united holds default_type common common_dtype out-DataType denote.Hole.Carrier.out
returns-clause-none g = refl

pub returns-clause-each : goal.returns-clause-each
unfolding united holds default_type common common_dtype out-DataType denote.Hole.Carrier.out
returns-clause-each g = refl
