use Rattle.std.proofs.Common.{◌∙◌, arith, ap, length, false}
use Rattle.std.proofs.lemmas.Result.{IfOk-weaker}
use Rattle.px_selection.proofs.Taken.{length-at_positions}
use Rattle.px_selection.proofs.take.take_bits.Goals as goal

pub from_bools-requires : goal.from_bools-requires
from_bools-requires c = omega (arith, ap length (c.as_slice.ensures.value ∙ c.in_ok-flags.ensures), length-at_positions false c.args.bits.now c.args.positions.now, c.requires)

pub returns : goal.returns
returns c = IfOk-weaker c.from_bools.result _ _ (λ b e. e ∙ c.as_slice.ensures.value ∙ c.in_ok-flags.ensures) c.from_bools.ensures
