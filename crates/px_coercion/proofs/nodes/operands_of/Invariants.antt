use Rattle.std.proofs.Common.{◌≡◌, map, take}
use Rattle.px_meaning.specs.Check.{operand_of}
use Rattle.px_coercion.specs.Found.{seen, read}
use Rattle.px_coercion.proofs.nodes.operands_of.Given as goal

-- the operands of the inputs so far
abbrev pub invariant-loop-input : goal.invariant-loop-input
invariant-loop-input l = map read l.operands.items ≡ map operand_of (map seen (take l.input-index l.inputs))
