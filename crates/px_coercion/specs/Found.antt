-- What is found at a node, as the definitions have it, and the signatures that want one type of each input.
use Rattle.px_types.specs.ValueTypes.{holds, default_type}
use Rattle.std.specs.Prelude.{◌≡◌, if◌then◌else◌, List, [], ◌∷◌, map, Option, Some, None, Result, Ok, Err}
use Rattle.px_base.specs.declared.error.PlanError.{PlanError}
use Rattle.px_base.specs.declared.error.PlanError.TheVariants.{OutOfMemory, InvalidOperation}
use Rattle.px_types.specs.declared.options.FunctionOptions.{FunctionOptions}
use Rattle.px_types.specs.declared.value_type.ValueType.{ValueType}
use Rattle.px_types.specs.declared.value_type.ValueType.TheVariants.{Boolean}
use Rattle.px_expr.specs.Tree.{Node, Tree, tree_of}
use Rattle.px_expr.specs.Options.{options_of}
use Rattle.px_meaning.specs.Signatures as meaning
use Rattle.px_meaning.specs.Signatures.{Signature, own_type, common_of}
use Rattle.px_meaning.specs.Check as check
use Rattle.px_meaning.specs.Check.{then_, or_fault, operand_of, coerced_all, made}
use Rattle.px_coercion.specs.declared.found.Found.{Found}
use Rattle.px_coercion.specs.declared.found.Found.TheVariants as found
use Rattle.px_coercion.specs.declared.found.Operand.{Operand}
use Rattle.px_coercion.specs.declared.found.Operand.TheVariants as operand

-- what is found, of whose expression the tree is seen
abbrev pub seen : Found → check.Found
seen (found.Typed e k) = check.Checked (record { tree = tree_of e; value_type = k })
seen (found.Untyped z) = check.Untyped z

abbrev pub read : Operand → meaning.Operand
read (operand.OfType k) = meaning.OfType k
read (operand.UntypedInteger z) = meaning.UntypedInteger z

-- the options in what is found; an integer literal has none
abbrev pub options_in : Found → List FunctionOptions
options_in (found.Typed e k) = options_of e
options_in (found.Untyped z) = []

-- the node by its signature, or the fault that there is none
abbrev pub by_signature : Option Signature → Node → List check.Found → Result check.Found PlanError
by_signature s n inputs = then_ (or_fault InvalidOperation s) (λ s. Ok (made n inputs s))

-- each of what was found in one type
abbrev pub all_coerced : ValueType → List check.Found → List Tree
all_coerced k inputs = coerced_all (map (λ _. k) (map operand_of inputs)) inputs

-- the own type of the only operand
abbrev pub sole_type : List meaning.Operand → Option ValueType
sole_type (o ∷ []) = own_type o
sole_type _ = None

-- a signature that wants one type of each input
abbrev pub uniform_signature : List meaning.Operand → ValueType × ValueType → Signature
uniform_signature os p = record { inputs = map (λ _. p.0) os; result = p.1 }

-- the signature of a mask and two branches in one type
abbrev pub branches : ValueType → Signature
branches k = record { inputs = Boolean ∷ k ∷ k ∷ []; result = k }

-- the type so far, or its common type with the default type of an integer literal that `base` does not hold
abbrev pub widened_by : ValueType → Option ValueType → meaning.Operand → Option ValueType
widened_by base common (meaning.OfType k) = common
widened_by base common (meaning.UntypedInteger z) = if holds base z then common else common_of common (default_type z)
