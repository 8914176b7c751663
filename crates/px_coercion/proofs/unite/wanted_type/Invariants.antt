use Rattle.std.proofs.Common.{◌≡◌, map, drop, Some}
use Rattle.px_meaning.specs.Signatures.{common_all, wanted_types}
use Rattle.px_coercion.specs.Found.{read}
use Rattle.px_coercion.proofs.unite.wanted_type.Given as goal

-- the answer is that of the type so far and of the operands that are left
abbrev pub invariant-loop-operand : goal.invariant-loop-operand
invariant-loop-operand l = common_all (Some l.base) (wanted_types l.base (map read l.operands)) ≡ common_all l.common (wanted_types l.base (map read (drop l.operand-index l.operands)))
