use Rattle.std.proofs.Common.{refl}
use Rattle.px_types.specs.declared.dtype.DataType.{out-DataType}
use Rattle.px_types.specs.ValueTypes.{common, common_dtype}
use Rattle.px_meaning.specs.Signatures.{united}
use Rattle.px_meaning.proofs.laws.types_unite.Goals as goal

pub returns-clause-null : goal.returns-clause-null
unfolding united common common_dtype out-DataType denote.Hole.Carrier.out
returns-clause-null g = refl

pub returns-clause-boolean : goal.returns-clause-boolean
unfolding united common common_dtype out-DataType denote.Hole.Carrier.out
returns-clause-boolean g = refl
