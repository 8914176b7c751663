use Rattle.std.proofs.Common.{refl}
use Rattle.px_base.specs.Exact.{same}
use Rattle.px_types.specs.declared.dtype.DataType.{out-DataType}
use Rattle.px_types.specs.ValueTypes.{common, common_dtype, holds, default_type}
use Rattle.px_meaning.specs.Signatures.{signature, united}
use Rattle.px_meaning.proofs.laws.literals_take_the_type_of_their_column.Goals as goal

pub returns-clause-held : goal.returns-clause-held
unfolding signature united holds default_type common common_dtype out-DataType denote.Hole.Carrier.out same
returns-clause-held g = refl

pub returns-clause-wider : goal.returns-clause-wider
unfolding signature united holds default_type common common_dtype out-DataType denote.Hole.Carrier.out same
returns-clause-wider g = refl
