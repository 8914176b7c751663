-- The options of what a rule makes.
use Rattle.std.specs.Prelude.{◌≡◌, ◌≤◌, ◌⊎◌, ℕ, List, length, Option, Some, None, slice_get}
use Rattle.px_functions.specs.declared.evaluated.EvaluatedBoolean.TheVariants as boolean
use Rattle.px_functions.specs.declared.evaluated.EvaluatedFunction.{EvaluatedFunction}
use Rattle.px_functions.specs.declared.evaluated.EvaluatedFunction.TheVariants as function
use Rattle.px_functions.specs.Evaluated.{evaluated}
use Rattle.px_types.specs.declared.options.FunctionOptions.{FunctionOptions}
use Rattle.px_arena.specs.declared.node.AExpr.{AExpr}
use Rattle.px_arena.specs.declared.node.AExpr.TheVariants as ir
use Rattle.px_rules.specs.declared.views.BinaryParts.{BinaryParts}
use Rattle.px_rules.specs.declared.views.BooleanCall.{BooleanCall}
use Rattle.px_rules.specs.Fusion.{fused_options}
use Rattle.px_rules.specs.Views.{binary_of, boolean_of, not_of}

-- the place holds an operator over two operands
abbrev pub HoldsBinary : List AExpr → ℕ → BinaryParts → Type 0
HoldsBinary items n parts = (x : AExpr) × (slice_get items n ≡ Some x) × (binary_of x ≡ Some parts)

-- the place holds a Boolean function over one input
abbrev pub HoldsCall : List AExpr → ℕ → BooleanCall → Type 0
HoldsCall items n call = (x : AExpr) × (slice_get items n ≡ Some x) × (boolean_of x ≡ Some call)

-- the place holds a `not` over one input
abbrev pub HoldsNot : List AExpr → ℕ → BooleanCall → Type 0
HoldsNot items n call = (x : AExpr) × (slice_get items n ≡ Some x) × (not_of x ≡ Some call)

-- the options of a function that a rule makes for the place n: a `not` has those of the `not` there, a null test
-- those of the function that stands under this `not`, and a fused function `fused_options`
abbrev pub HasOptions : List AExpr → ℕ → Option EvaluatedFunction → FunctionOptions → Type 0
HasOptions items n (Some (function.Boolean boolean.Not)) options = (outer : BooleanCall) × HoldsNot items n outer × (options ≡ outer.options)
HasOptions items n (Some (function.Boolean test)) options =
    (outer : BooleanCall) × (inner : BooleanCall) × HoldsNot items n outer × HoldsCall items outer.input.0 inner × (options ≡ inner.options)
HasOptions items n (Some (function.Fused f)) options = options ≡ fused_options
HasOptions items n _ options = ⊥

-- a rule makes no other function than these
abbrev pub HasRightOptions : List AExpr → ℕ → AExpr → Type 0
HasRightOptions items n (ir.Function input f options) = HasOptions items n (evaluated f) options
HasRightOptions items n (ir.AnonymousFunction input kernel options) = ⊥
HasRightOptions items n _ = Unit {0}

-- the places that a rule copies from: an operand, and what stands under two `not`s
abbrev pub IsSource : List AExpr → ℕ → ℕ → Type 0
IsSource items n m =
    ((parts : BinaryParts) × HoldsBinary items n parts × ((m ≡ parts.left.0) ⊎ (m ≡ parts.right.0))) ⊎
    ((outer : BooleanCall) × (inner : BooleanCall) × HoldsNot items n outer × HoldsNot items outer.input.0 inner × (m ≡ inner.input.0))

-- a node that stands at such a place, with its options
abbrev pub IsCopied : List AExpr → ℕ → AExpr → Type 0
IsCopied items n e = (m : ℕ) × IsSource items n m × (slice_get items m ≡ Some e)

-- without an answer nothing is added; an answer is copied or has the right options, and so has each added node
abbrev pub KeepsOptions : List AExpr → List AExpr → ℕ → Option AExpr → Type 0
KeepsOptions old new n None = new ≡ old
KeepsOptions old new n (Some e) =
    (IsCopied old n e ⊎ HasRightOptions old n e) ×
    ((m : ℕ) (x : AExpr) → length old ≤ m → slice_get new m ≡ Some x → HasRightOptions old n x)
