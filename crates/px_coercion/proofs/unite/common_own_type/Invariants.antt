use Rattle.std.proofs.Common.{◌≡◌, map, drop, Some}
use Rattle.px_types.specs.declared.value_type.ValueType.TheVariants.{Null}
use Rattle.px_meaning.specs.Signatures.{common_all, own_types}
use Rattle.px_coercion.specs.Found.{read}
use Rattle.px_coercion.proofs.unite.common_own_type.Given as goal

-- the answer is that of the type so far and of the operands that are left
abbrev pub invariant-loop-operand : goal.invariant-loop-operand
invariant-loop-operand l = common_all (Some Null) (own_types (map read l.operands)) ≡ common_all l.common (own_types (map read (drop l.operand-index l.operands)))
